-- Integers: the numbers that the words of a script write.
use Rattle.std.specs.Prelude.{◌^◌, Bool, ◌&&◌, cond, ℤ, pos, neg_ℤ, int_le}
use Rattle.vcp_base.specs.declared.ty.Ty.TheVariants as ty
use Rattle.vcp_base.specs.Types.{fits, greatest}

-- e is at most 2^62 in size
abbrev pub is_addend : ℤ → Bool
is_addend e = int_le (neg_ℤ (pos (2 ^ 62))) e && int_le e (pos (2 ^ 62))

-- a number that has 64 bits, and the greatest one that has for any other
abbrev pub as_lint : ℤ → ℤ
as_lint v = cond (fits ty.Lint v) v (greatest ty.Lint)
