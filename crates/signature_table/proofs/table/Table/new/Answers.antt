use Rattle.std.proofs.Common.{◌<◌, ◌≤◌, ℕ, All, List, length, ap, ap₂, sym, subst, ◌∙◌, arith}
use Rattle.std.proofs.lemmas.Result.{IfOk-from_err}
use Rattle.vcp_base.specs.declared.code.Profile.{Profile}
use Rattle.vcp_base.specs.Code.{modulus}
use Rattle.op_graph.specs.Lists.{cells}
use Rattle.signature_table.specs.Signatures.{Numbers, correction}
use Rattle.signature_table.proofs.Making.{one_more, whole}
use Rattle.signature_table.proofs.table.Table.new.Goals as goal

pub operations-preserved : goal.operations-preserved
operations-preserved c =
    let is = c.correction.ensures.value
    ∙ ap (λ q. correction q c.args.seed c.args.step c.operations.k c.operation-op.result c.store_of-store.result) c.profile-profile.ensures.value
    ∙ ap (correction c.args.graph.now.profile c.args.seed c.args.step c.operations.k c.operation-op.result) c.store_of-store.ensures in
    let below = subst (λ q. c.correction.result < modulus q) c.profile-profile.ensures.value c.correction.ensures.below in
    rw c.in_ok-push.ensures.items
    (one_more c.args.graph.now.profile c.args.seed c.args.step (cells c.args.graph.now) c.args.graph.now.operations c.operations.corrections.items c.operations.k c.operation-op.result c.correction.result c.operations.invariant c.operation-op.ensures is below)

pub returns-in_err-push-clause-numbers : goal.returns-in_err-push-clause-numbers
returns-in_err-push-clause-numbers c = IfOk-from_err c.from_residual.result _ c.from_residual.ensures.0

pub returns-in_err-push-clause-count : goal.returns-in_err-push-clause-count
returns-in_err-push-clause-count c = IfOk-from_err c.from_residual.result _ c.from_residual.ensures.0

pub invariant_of-result : goal.invariant_of-result
invariant_of-result c =
    let m = c.operations.invariant in
    let count = m.count in
    let few = c.len-k-end.ensures.rules.part.few_operations in
    record {
      seed = c.requires.seed;
      step_from = c.requires.step_from;
      step_to = c.requires.step_to;
      few = omega (arith, count, few, c.operations.auto.k-end, c.len-k-end.ensures.count);
      residues = subst (λ q. All (λ x. x < modulus q) c.operations.corrections.items) (sym c.profile-profile.ensures.value) m.residues;
    }

pub returns-clause-numbers : goal.returns-clause-numbers
returns-clause-numbers c =
    let g = c.args.graph.now in
    let past : length g.operations ≤ c.operations.k = omega (arith, c.operations-test.false, c.len-k-end.ensures.count) in
    ap₂ (λ (p : Profile) (made : List ℕ). let t : Numbers = record { profile = p; seed = c.args.seed; step = c.args.step; corrections = made } in t)
    c.profile-profile.ensures.value
    (whole g.profile c.args.seed c.args.step (cells g) g.operations c.operations.corrections.items c.operations.k c.operations.invariant past)

pub returns-clause-count : goal.returns-clause-count
returns-clause-count c =
    let count = c.operations.invariant.count in
    omega (arith, count, c.operations-test.false, c.operations.auto.k-end, c.len-k-end.ensures.count)
