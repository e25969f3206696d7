use Rattle.std.proofs.Common.{◌≡◌, ◌<◌, neg_ℤ, length, ap, sym, subst, ◌∙◌, arith}
use Rattle.std.proofs.lemmas.Bool.{and_parts as both_true}
use Rattle.vcp_base.specs.Values.{at}
use Rattle.range_walk.specs.Intervals.{IsIn}
use Rattle.range_walk.proofs.Conditions.{selection, opposite, chosen_no, chosen_yes, twice_by, in_one, not_one, not_zero}
use Rattle.range_walk.proofs.choices.made_of.Goals as goal

pub returns-then-n-m : goal.returns-then-n-m
returns-then-n-m c = λ held row vs given fit le value. subst (λ k. IsIn c.args.value (at vs k)) (sym c.if-n-m.true) value

pub returns-then-found : goal.returns-then-found
returns-then-found c = λ held row vs given fit le value.
    let op = c.operation_at-op.result in
    let neg = c.operation_at-other.result in
    let x = at vs c.args.n in
    let lt : c.args.m < length vs = omega (arith, le, c.requires.made) in
    let is = selection held row vs op c.args.m (given.each c.args.m op lt c.operation_at-op.ensures.is) c.operation_at-op.ensures.earlier c.in-Sel.is in
    let both = both_true c.is_truth-is_truth.result c.is_size_of-is_size.result (sym c.both_hold-found.ensures ∙ c.if-found.true) in
    let takes = c.is_size_of-is_size.ensures.takes both.1 in
    let kind = c.is_size_of-is_size.ensures.kind both.1 in
    let of = c.is_size_of-is_size.ensures.of both.1 in
    let minus : neg_ℤ (at vs op.c) ≡ x =
    opposite held row vs neg op.c (given.each op.c neg (omega (arith, c.operation_at-op.ensures.third, lt)) c.operation_at-other.ensures.is)
    c.operation_at-other.ensures.earlier kind ∙ ap (at vs) of in
    let truth = fit op.a c.earlier_range-condition.result (omega (arith, c.operation_at-op.ensures.first, lt)) c.earlier_range-condition.ensures in
    in_one (c.is_truth-is_truth.ensures both.0 (at vs op.a) truth)
    (λ zero. c.of_either_sign.ensures.same x (subst (λ v. IsIn c.args.value v) (chosen_no _ _ _ _ is zero ∙ ap (at vs) takes) value)
    (c.by_comparison-no.ensures held row vs given fit le (not_one _ zero)))
    (λ one. c.of_either_sign.ensures.opposite x
    (subst (λ v. IsIn c.args.value v) (chosen_yes _ _ _ _ is (not_zero _ one) ∙ twice_by (at vs op.c) x minus) value)
    (c.by_comparison-yes.ensures held row vs given fit le one))

pub returns-else-found : goal.returns-else-found
returns-else-found c = λ held row vs given fit le value. fit c.args.n c.earlier_range-r.result (omega (arith, le, c.requires.there)) c.earlier_range-r.ensures

pub returns-in_default : goal.returns-in_default
returns-in_default c = λ held row vs given fit le value. fit c.args.n c.earlier_range-r.result (omega (arith, le, c.requires.there)) c.earlier_range-r.ensures
