use Rattle.std.proofs.Common.{◌≡◌, ◌+◌, suc, List, ◌++◌, ◌∷◌, [], length, length-append, slice_get, Some, ap, sym, subst, ◌∙◌, arith}
use Rattle.std.proofs.Math.Nat.{le_of_eq}
use Rattle.std.proofs.lemmas.Result.{IfOk-from_err}
use Rattle.weight_audit.specs.Audit.{Distance}
use Rattle.weight_audit.proofs.Auditing.{none_more, one_more}
use Rattle.weight_audit.proofs.weigh.distances.Goals as goal

pub distance_before-requires-clause-reached : goal.distance_before-requires-clause-reached
distance_before-requires-clause-reached c = (c.borders.invariant.each c.borders.after c.at.result.now c.at.ensures).reached.many

pub borders-preserved : goal.borders-preserved
borders-preserved c =
    let g = c.args.graph.now in
    let i = c.borders.invariant in
    let next = c.in_ok-next.next in
    let count : length (c.borders.distances ++ next ∷ []) ≡ suc (c.borders.after + 1) = simp length-append (omega (arith, i.many)) in
    record {
      many = ap length c.in_ok-push-2.ensures.ok ∙ count;
      each = λ b d e. one_more g c.args.out c.borders.after c.borders.distances next i.many i.each
          (c.in_ok-next.ensures c.args.out c.borders.after (i.each c.borders.after c.at.result.now c.at.ensures)) b d
          (subst (λ xs. slice_get xs b ≡ Some d) c.in_ok-push-2.ensures.ok e);
    }

pub borders-init : goal.borders-init
borders-init c =
    let first = c.in_ok-first.first in
    let is = c.in_ok-push.ensures.ok ∙ ap (λ (ds : List Distance). ds ++ first ∷ []) c.new-distances.ensures in
    record {
      many = ap length is;
      each = λ b d e. none_more c.args.graph.now c.args.out first c.in_ok-first.ensures b d (subst (λ xs. slice_get xs b ≡ Some d) is e);
    }

pub at-requires : goal.at-requires
at-requires c = le_of_eq (sym c.borders.invariant.many)

pub distance_before-requires-clause-weights : goal.distance_before-requires-clause-weights
distance_before-requires-clause-weights c = (c.borders.invariant.each c.borders.after c.at.result.now c.at.ensures).weights.many

pub returns-in_err-first : goal.returns-in_err-first
returns-in_err-first c = IfOk-from_err c.from_residual.result _ c.from_residual.ensures.0

pub returns-in_err-push : goal.returns-in_err-push
returns-in_err-push c = IfOk-from_err c.from_residual-in_err-push.result _ c.from_residual-in_err-push.ensures.0

pub returns-in_err-next : goal.returns-in_err-next
returns-in_err-next c = IfOk-from_err c.from_residual-in_err-next.result _ c.from_residual-in_err-next.ensures.0

pub returns-in_err-push-2 : goal.returns-in_err-push-2
returns-in_err-push-2 c = IfOk-from_err c.from_residual-in_err-push-2.result _ c.from_residual-in_err-push-2.ensures.0
