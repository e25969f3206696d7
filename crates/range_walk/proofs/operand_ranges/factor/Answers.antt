use Rattle.std.proofs.Common.{◌≢◌, ◌*ℤ◌, pos, subst}
use Rattle.range_walk.specs.Intervals.{IsIn, IsWithin}
use Rattle.range_walk.proofs.Integers.{quot_times}
use Rattle.range_walk.proofs.operand_ranges.factor.Goals as goal

pub returns-then-some : goal.returns-then-some
returns-then-some c = λ x y i j k.
    let not_zero : y ≢ pos 0 = λ e. c.excludes-some.ensures.out c.if-some.true (subst (λ z. IsIn c.args.b z) e k) in
    c.met.ensures x j (subst (λ z. IsWithin c.quotient-bounds.result z) (quot_times x y not_zero) (c.quotient-bounds.ensures (x *ℤ y) y i k not_zero))

pub returns : goal.returns
returns c = λ x y i j k. j
