use Rattle.std.proofs.Common.{◌≡◌, ℕ, ℤ, ◌-ℤ◌, ◌*ℤ◌, ◌∙◌, ap, ap₂, arith, neg_ℤ, of_z, pos, rules, sym, to_z, w64}
use mir.Syntax.{w32, w128}
use Rattle.std.proofs.Math.Facts.{to_z-of_z}
use Rattle.vcp_base.specs.Kinds.{multiplier}
use Rattle.std.proofs.lemmas.Int.{ints}
use Rattle.signature_table.specs.Signatures.{signature}
use Rattle.fault_script.specs.Differences.{made, origin}
use Rattle.fault_cover.proofs.starts.made_by.Goals as goal

-- nothing is taken away
take_none : (s : ℕ) (z : ℤ) → pos s -ℤ pos 0 -ℤ z ≡ pos s -ℤ z
take_none s z = omega (arith, ints)

pub returns-in-OperandAdd : goal.returns-in-OperandAdd
returns-in-OperandAdd c =
    let op = c.args.op.now in
    let factor : to_z w32 (of_z w32 c.multiplier.result) ≡ multiplier op.kind c.in-OperandAdd.j =
    to_z-of_z {w = w32} {z = c.multiplier.result} (search rules) ∙ c.multiplier.ensures.value in
    let added : to_z w64 (of_z w64 c.in-OperandAdd.e) ≡ c.in-OperandAdd.e = to_z-of_z {w = w64} {z = c.in-OperandAdd.e} (search rules) in
    to_z-of_z {w = w128} {z = c.weighed.result} (search rules) ∙ c.weighed.ensures.value ∙ ap₂ (λ x y. x *ℤ y) factor added
    ∙ sym (ap (made c.args.table.now c.args.graph.now op) c.in-OperandAdd.is)

pub returns-in-OperandFrom : goal.returns-in-OperandFrom
returns-in-OperandFrom c =
    let t = c.args.table.now in
    let g = c.args.graph.now in
    let op = c.args.op.now in
    let j = c.in-OperandFrom.j in
    to_z-of_z {w = w128} {z = c.exchanged.result} (search rules) ∙ c.exchanged.ensures.value
    ∙ ap (λ z. multiplier op.kind j *ℤ z) (take_none (signature t.profile t.seed c.in-OperandFrom.r) (origin t g op j))
    ∙ sym (ap (made t g op) c.in-OperandFrom.is)

pub returns-in-OperandStale : goal.returns-in-OperandStale
returns-in-OperandStale c =
    let op = c.args.op.now in
    let factor : to_z w32 (of_z w32 c.multiplier-in-OperandStale.result) ≡ multiplier op.kind c.in-OperandStale.j =
    to_z-of_z {w = w32} {z = c.multiplier-in-OperandStale.result} (search rules) ∙ c.multiplier-in-OperandStale.ensures.value in
    let less : to_z w64 (of_z w64 c.less_step.result) ≡ neg_ℤ (pos c.args.table.now.step) =
    to_z-of_z {w = w64} {z = c.less_step.result} (search rules) ∙ c.less_step.ensures in
    to_z-of_z {w = w128} {z = c.weighed-in-OperandStale.result} (search rules) ∙ c.weighed-in-OperandStale.ensures.value ∙ ap₂ (λ x y. x *ℤ y) factor less
    ∙ sym (ap (made c.args.table.now c.args.graph.now op) c.in-OperandStale.is)

pub returns-in-Operator : goal.returns-in-Operator
returns-in-Operator c =
    to_z-of_z {w = w128} {z = c.operated.result} (search rules) ∙ c.operated.ensures
    ∙ sym (ap (made c.args.table.now c.args.graph.now c.args.op.now) c.in-Operator.is)
