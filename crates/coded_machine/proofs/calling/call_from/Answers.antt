use Rattle.std.proofs.Common.{ap, subst, sym, ◌<◌, ◌≤◌, ◌*◌, ◌+◌, ◌∙◌, ◌≡◌, refl, slice_get, arith, length, to_z, of_z, to_z-of_z, w64, zero-add, Some}
use Rattle.std.specs.Prelude.{unsigned_abs}
use Rattle.std.proofs.Math.Nat.{mul-le-mul}
use Rattle.std.proofs.lemmas.Option.{get_or_from_slice_get, slice_get_within}
use Rattle.vcp_base.specs.Code.{modulus}
use Rattle.vcp_base.specs.Limits.{most_cycles, most_step}
use Rattle.op_graph.specs.Rules.{Admitted}
use Rattle.op_graph.specs.Lists.{cells}
use Rattle.signature_table.specs.Signatures.{correction, store_of}
use Rattle.coded_machine.specs.Calls.{own_number}
use Rattle.coded_machine.proofs.Places.{length-corrections, correction_at}
use Rattle.coded_machine.proofs.calling.call_from.Goals as goal

pub correction-requires : goal.correction-requires
correction-requires c =
    let g = c.args.graph.now in
    let t = c.args.table.now in
    let within = slice_get_within g.operations c.args.i c.args.op.now c.requires.here in
    omega (arith, within, ap length c.requires.table.1, length-corrections g.profile t.seed t.step (cells g) 0 g.operations)

pub returns-clause-call : goal.returns-clause-call
returns-clause-call c =
    let g = c.args.graph.now in
    let t = c.args.table.now in
    let i = c.args.i in
    let op = c.args.op.now in
    let store = store_of (cells g) (unsigned_abs op.imm) in
    let corr : c.correction.result ≡ correction g.profile t.seed t.step i op store =
    correction_at g.profile t.seed t.step (cells g) 0 g.operations i op c.correction.result c.requires.here
    (subst (λ xs. slice_get xs i ≡ Some c.correction.result) c.requires.table.1 c.correction.ensures.value)
    ∙ ap (λ j. correction g.profile t.seed t.step j op store) (zero-add i) in
    let imm : to_z w64 (of_z w64 c.own_number.result) ≡ own_number op.kind op.imm c.args.operands.now.input = grind (arith, to_z-of_z) in
    rw (c.requires.begun.profile, c.requires.begun.stamp, corr, imm) refl

pub returns-clause-asked : goal.returns-clause-asked
returns-clause-asked c =
    let g = c.args.graph.now in
    let t = c.args.table.now in
    let op = c.args.op.now in
    let begun = c.args.begun.now in
    let within = slice_get_within g.operations c.args.i op c.requires.here in
    let here : Admitted g.profile op =
    subst (Admitted g.profile) (get_or_from_slice_get g.operations c.args.i op op c.requires.here)
    (c.profile-profile.ensures.types.operations c.args.i op within) in
    let types : Admitted begun.profile op = subst (λ q. Admitted q op) (sym c.requires.begun.profile) here in
    let grown : begun.cycle + 1 ≤ most_cycles = omega (arith, c.requires.cycle) in
    let short : t.step ≤ most_step = omega (arith, c.step-step.ensures.ranges.step_to) in
    let most : t.step * (begun.cycle + 1) ≤ most_step * most_cycles = mul-le-mul short grown in
    record {
      corr = subst (λ q. c.correction.result < modulus q) (c.requires.table.0 ∙ sym c.requires.begun.profile) c.correction.ensures.below;
      stamp = omega (arith, most, c.requires.begun.stamp);
      from = types.0;
      ty = types.1;
    }
