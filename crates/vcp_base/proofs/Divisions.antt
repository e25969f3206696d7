-- Divisions: the quotient and the remainder of two values of 64 bits.
use Rattle.std.proofs.Common.{◌≡◌, ◌<◌, ◌∙◌, ℤ, pos, negsuc, neg_ℤ, false, sym, ap, SFits, to_z, of_z, w64, arith, rules, int_div, int_rem}
use mir.Syntax.{w128}
use lib.Signed.{mag_rem}
use Rattle.std.proofs.Math.Facts.{sfits_widen, sfits_to_z, Fits-of_z}
use Rattle.std.proofs.lemmas.Bool.{false≢true}
use Rattle.std.proofs.lemmas.Int.{ints, to_z-of_z}
use Rattle.vcp_base.specs.Kinds.{same}

-- a value of 64 bits has 128, and reads the same in them
pub wide_fits : (z : ℤ) → SFits w64 z → SFits w128 (to_z w64 (of_z w64 z))
wide_fits z fits = sfits_widen tt (sfits_to_z {w = w64} {n = of_z w64 z} (Fits-of_z fits))

pub wide_is : (z : ℤ) → SFits w64 z → to_z w128 (of_z w128 (to_z w64 (of_z w64 z))) ≡ z
wide_is z fits = to_z-of_z w128 (to_z w64 (of_z w64 z)) (wide_fits z fits) ∙ to_z-of_z w64 z fits

-- the divisor is what its bits say
bits_are : (b d : ℤ) → SFits w64 b → to_z w64 (of_z w64 b) ≡ d → b ≡ d
bits_are b d fits e = sym (to_z-of_z w64 b fits) ∙ e

pub not_by_zero : (b : ℤ) → SFits w64 b → of_z w64 b ≡ 0 → same b (pos 0) ≡ false → ⊥
not_by_zero b fits zero some = false≢true (sym some ∙ ap (λ (z : ℤ). same z (pos 0)) (bits_are b (pos 0) fits (ap (to_z w64) zero)))

by_minus_one : (a : ℤ) → (neg_ℤ a ≡ int_div a (negsuc 0)) × (pos 0 ≡ int_rem a (negsuc 0))
by_minus_one a = (grind (arith, ints), grind (arith, ints))

pub quotient_by_minus_one : (a b : ℤ) → SFits w64 b → of_z w64 b ≡ 18446744073709551615 → neg_ℤ a ≡ int_div a b
quotient_by_minus_one a b fits is = (by_minus_one a).0 ∙ ap (int_div a) (sym (bits_are b (negsuc 0) fits (ap (to_z w64) is)))

pub rest_by_minus_one : (a b : ℤ) → SFits w64 b → of_z w64 b ≡ 18446744073709551615 → pos 0 ≡ int_rem a b
rest_by_minus_one a b fits is = (by_minus_one a).1 ∙ ap (int_rem a) (sym (bits_are b (negsuc 0) fits (ap (to_z w64) is)))

-- the quotient by another divisor than 0 and -1 has 64 bits
pub divides : (a b : ℤ) → SFits w64 a → SFits w64 b → (of_z w64 b ≡ 0 → ⊥) → (of_z w64 b ≡ 18446744073709551615 → ⊥)
    → (0 < of_z w64 b) × SFits w64 (int_div (to_z w64 (of_z w64 a)) (to_z w64 (of_z w64 b)))
divides a b left right zero minus_one = first_of (search (ints, rules), grind (ints, arith))

pub quotient_is : (a b : ℤ) → SFits w64 a → SFits w64 b → SFits w64 (int_div (to_z w64 (of_z w64 a)) (to_z w64 (of_z w64 b)))
    → to_z w128 (of_z w128 (to_z w64 (of_z w64 (int_div (to_z w64 (of_z w64 a)) (to_z w64 (of_z w64 b)))))) ≡ int_div a b
quotient_is a b left right fits = wide_is _ fits ∙ (λ i. int_div (to_z-of_z w64 a left i) (to_z-of_z w64 b right i))

pub rest_fits : (a b : ℤ) → SFits w64 a → SFits w64 (int_rem (to_z w64 (of_z w64 a)) b)
rest_fits a b left =
    let less = mag_rem (to_z w64 (of_z w64 a)) b in
    let bits = sfits_to_z {w = w64} {n = of_z w64 a} (Fits-of_z left) in
    record { sfits = omega (arith, less, bits.sfits) }

pub rest_is : (a b : ℤ) → SFits w64 a → SFits w64 b
    → to_z w128 (of_z w128 (to_z w64 (of_z w64 (int_rem (to_z w64 (of_z w64 a)) (to_z w64 (of_z w64 b)))))) ≡ int_rem a b
rest_is a b left right = wide_is _ (rest_fits a (to_z w64 (of_z w64 b)) left) ∙ (λ i. int_rem (to_z-of_z w64 a left i) (to_z-of_z w64 b right i))
