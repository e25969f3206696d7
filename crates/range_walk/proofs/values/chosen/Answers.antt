use Rattle.std.proofs.Common.{pos}
use Rattle.std.proofs.lemmas.Bool.{cond_both}
use Rattle.vcp_base.specs.Kinds.{same}
use Rattle.range_walk.specs.Intervals.{IsIn}
use Rattle.range_walk.proofs.ValueBounds.{same_is, not_divided, moved}
use Rattle.range_walk.proofs.values.chosen.Goals as goal

pub returns-then-is_zero : goal.returns-then-is_zero
returns-then-is_zero c = λ x y z i j k.
    let zero = c.is_only-is_zero.ensures c.if-is_zero.true x i in
    cond_both (same x (pos 0)) y z (λ v. IsIn c.args.b v) (λ t. j zero) (λ f. absurd (not_divided x f zero))

pub returns-then-is_one : goal.returns-then-is_one
returns-then-is_one c = λ x y z i j k.
    cond_both (same x (pos 0)) y z (λ v. IsIn c.args.c v)
    (λ t. absurd (c.excludes-is_one.ensures.out c.if-is_one.true (moved c.args.a x _ (same_is x (pos 0) t) i))) (λ f. k (not_divided x f))

pub returns : goal.returns
returns c = λ x y z i j k.
    cond_both (same x (pos 0)) y z (λ v. IsIn c.joined.result v) (λ t. c.joined.ensures.first y (j (same_is x (pos 0) t)))
    (λ f. c.joined.ensures.second z (k (not_divided x f)))
