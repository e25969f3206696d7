-- Weighing: a number of 64 bits times a multiplier, or the difference of two, is small.
use Rattle.std.proofs.Common.{◌≡◌, ◌≤◌, ◌*◌, ◌^◌, ℤ, pos, negsuc, ◌*ℤ◌, arith}
use Rattle.std.specs.Prelude.{unsigned_abs}
use Rattle.std.proofs.Math.Nat.{mul-le-mul}
use Rattle.std.proofs.lemmas.Int.{ints, unsigned_abs-mul}
use Rattle.coded_unit.specs.Words.{Small}

small_by_size : (z : ℤ) → unsigned_abs z ≤ 2 ^ 72 → Small z
small_by_size (pos n) h = (omega (arith, ints), omega (arith, ints))
small_by_size (negsuc n) h = (omega (arith, ints), omega (arith, ints))

pub small_product : (a b : ℤ) → unsigned_abs a ≤ 22 → unsigned_abs b ≤ 2 ^ 63 → Small (a *ℤ b)
small_product a b at_a at_b =
    let is : unsigned_abs (a *ℤ b) ≡ unsigned_abs a * unsigned_abs b = unsigned_abs-mul a b in
    let le : unsigned_abs a * unsigned_abs b ≤ 22 * 2 ^ 63 = mul-le-mul at_a at_b in
    small_by_size (a *ℤ b) (omega (arith, is, le))
