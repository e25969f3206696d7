use Rattle.std.proofs.Common.{◌≡◌, ◌+◌, ◌++◌, ◌∷◌, [], length, length-append, slice_get, Some, ap, sym, subst, ◌∙◌, arith}
use Rattle.std.proofs.lemmas.Result.{IfOk-from_err}
use Rattle.weight_audit.specs.Audit.{IsAudit, IsWhole}
use Rattle.weight_audit.proofs.Auditing.{audit_of, output_more, is_whole, is_audit}
use Rattle.weight_audit.proofs.weigh.all_weights.Goals as goal

pub distances-requires-clause-out : goal.distances-requires-clause-out
distances-requires-clause-out c = (c.entries_keep_their_rules.ensures.output c.args.graph.now c.outputs.i c.output-outlet.result c.len-count.ensures.rules.part c.output-outlet.ensures).operation

pub outputs-preserved : goal.outputs-preserved
outputs-preserved c =
    let g = c.args.graph.now in
    let i = c.outputs.invariant in
    let next = c.in_ok-of_output.of_output in
    let count : length (c.outputs.outputs.items ++ next ∷ []) ≡ c.outputs.i + 1 = simp length-append (omega (arith, i.many)) in
    record {
      many = ap length c.in_ok-push.ensures.items ∙ count;
      all = λ output ds o e here. output_more g c.args.horizon c.outputs.i c.outputs.outputs.items next c.output-outlet.result i.many c.output-outlet.ensures i.all c.in_ok-of_output.ensures output ds o
          (subst (λ xs. slice_get xs output ≡ Some ds) c.in_ok-push.ensures.items e) here;
    }

pub new-requires : goal.new-requires
new-requires c =
    let g = c.args.graph.now in
    let many : length c.outputs.outputs.items ≡ length g.outputs =
    omega (arith, c.outputs.invariant.many, c.outputs-test.false, c.outputs.auto.i-end, c.outputs-i-end.ensures) in
    subst (λ n. IsWhole (audit_of n c.args.horizon c.outputs.outputs.items)) (sym c.len-count.ensures.count)
    (is_whole g c.args.horizon c.outputs.outputs.items many c.outputs.invariant.all)

pub returns : goal.returns
returns c =
    let g = c.args.graph.now in
    let many : length c.outputs.outputs.items ≡ length g.outputs =
    omega (arith, c.outputs.invariant.many, c.outputs-test.false, c.outputs.auto.i-end, c.outputs-i-end.ensures) in
    let is = subst (λ n. IsAudit g c.args.horizon (audit_of n c.args.horizon c.outputs.outputs.items)) (sym c.len-count.ensures.count)
    (is_audit g c.args.horizon c.outputs.outputs.items many c.outputs.invariant.all) in
    rw c.new.ensures is

pub returns-in_err-of_output : goal.returns-in_err-of_output
returns-in_err-of_output c = IfOk-from_err c.from_residual.result _ c.from_residual.ensures.0

pub returns-in_err-push : goal.returns-in_err-push
returns-in_err-push c = IfOk-from_err c.from_residual-in_err-push.result _ c.from_residual-in_err-push.ensures.0
