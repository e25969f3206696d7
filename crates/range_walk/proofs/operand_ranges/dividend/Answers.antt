use Rattle.std.proofs.Common.{◌≢◌, ◌*ℤ◌, pos, sym, subst, FitsSigned, w64, rules}
use Rattle.std.specs.Prelude.{int_div, int_rem}
use Rattle.std.proofs.lemmas.Int.{quot-rem}
use Rattle.range_walk.proofs.Integers.{fits_amid}
use Rattle.range_walk.specs.Intervals.{IsIn, IsWithin}
use Rattle.range_walk.proofs.operand_ranges.dividend.Goals as goal

pub returns-then-some : goal.returns-then-some
returns-then-some c = λ x y i j k.
    let not_zero : y ≢ pos 0 = λ e. c.excludes-some.ensures.out c.if-some.true (subst (λ z. IsIn c.args.b z) e k) in
    let is = quot-rem x y in
    let multiple = c.product-multiple.ensures (int_div x y) y i k in
    let remainder = c.rest-remainder.ensures x y j k not_zero in
    let fits = fits_amid c.args.a.low c.args.a.high x (search rules) (search rules) j.at_least j.at_most in
    let within = c.sum_within-bounds.ensures (int_div x y *ℤ y) (int_rem x y) multiple remainder (subst (λ z. FitsSigned w64 z) (sym is) fits) in
    c.met.ensures x j (subst (λ z. IsWithin c.sum_within-bounds.result z) is within)

pub returns : goal.returns
returns c = λ x y i j k. j
