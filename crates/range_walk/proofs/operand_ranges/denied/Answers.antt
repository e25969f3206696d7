use Rattle.std.proofs.Common.{pos, ◌-ℤ◌, subst}
use Rattle.range_walk.specs.Intervals.{IsWithin}
use Rattle.range_walk.proofs.Backward.{twice_denied}
use Rattle.range_walk.proofs.operand_ranges.denied.Goals as goal

pub returns : goal.returns
returns c = λ x i j.
    c.met.ensures x j (subst (λ v. IsWithin c.difference-bounds.result v) (twice_denied x)
    (c.difference-bounds.ensures (pos 1) (pos 1 -ℤ x) c.only-one.ensures i))
