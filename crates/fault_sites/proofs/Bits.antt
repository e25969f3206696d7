-- Bits: the bits of an integer in two's complement, by its size.
use Rattle.std.proofs.Common.{◌≡◌, ℕ, ◌-◌, ◌/◌, ◌%◌, ◌^◌, ◌==◌, not, ℤ, pos, negsuc, ◌<ℤ◌, ◌≤ℤ◌, unsigned_abs, refl, ap, arith}
use Rattle.std.proofs.lemmas.Int.{ints}
use Rattle.fault_sites.specs.Flips.{bit_of}

pub plus_bit : (v : ℤ) (b : ℕ) → pos 0 ≤ℤ v → bit_of v b ≡ (unsigned_abs v / 2 ^ b % 2 == 1)
plus_bit (pos n) b h = refl
plus_bit (negsuc n) b h = absurd (omega (arith, ints, h))

pub minus_bit : (v : ℤ) (b : ℕ) → v <ℤ pos 0 → bit_of v b ≡ not ((unsigned_abs v - 1) / 2 ^ b % 2 == 1)
minus_bit (pos n) b h = absurd (omega (arith, ints, h))
minus_bit (negsuc n) b h =
    let is : n ≡ unsigned_abs (negsuc n) - 1 = omega arith in
    ap (λ (m : ℕ). not (m / 2 ^ b % 2 == 1)) is
