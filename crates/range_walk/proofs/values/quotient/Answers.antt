use Rattle.std.proofs.Common.{SFits, sym, subst, ◌∙◌, w64, rules, arith}
use Rattle.std.proofs.lemmas.Int.{ints}
use Rattle.std.specs.Prelude.{int_div}
use Rattle.range_walk.specs.Intervals.{IsWithin}
use Rattle.range_walk.proofs.values.quotient.Goals as goal

pub returns-then-is_one : goal.returns-then-is_one
returns-then-is_one c = λ x y i j some.
    let same = c.is_only-is_one.ensures c.if-is_one.true y (c.without_zero-divisor.ensures y j some) in
    subst (λ z. IsWithin c.quotient_by.result (int_div x z)) (sym same) (c.quotient_by.ensures x i (λ e. some (same ∙ e)))

pub returns-then-k-gt0 : goal.returns-then-k-gt0
returns-then-k-gt0 c = λ x y i j some.
    let low : SFits w64 c.without_zero-divisor.result.low = search rules in
    let least = (c.without_zero-divisor.ensures y j some).at_least in
    c.quotient_by_positive.ensures x y i (omega (arith, ints))

pub returns : goal.returns
returns c = λ x y i j some. c.quotient_by_any.ensures x y i
