-- Values of 64 bits, and what the operators make of them in 128 bits.
use Rattle.std.proofs.Common.{◌≡◌, ℕ, zero, suc, ◌≤◌, ◌<◌, ◌^◌, ◌/◌, ℤ, pos, negsuc, ◌*ℤ◌, div-le_self, w64, SFits, to_z, of_z, refl, sym, ap, ◌∙◌, arith, []}
use Rattle.std.proofs.Common.{Result, Err, ◌+ℤ◌, ◌-ℤ◌, subst}
use Rattle.std.specs.Prelude.{int_div, int_rem, unsigned_abs, neg_ℤ, true, false, cond}
use Rattle.std.proofs.Math.Facts.{sfits_widen, sfits_lit}
use Rattle.std.proofs.lemmas.Int.{ints, to_z-of_z, fits_signed_mul, fits_signed_from_abs}
use mir.Syntax.{w128}
use Rattle.vcp_base.specs.Kinds.{same}
use Rattle.vcp_base.specs.declared.ty.Ty.{Ty}
use Rattle.vcp_base.specs.declared.ty.Ty.TheVariants as ty
use Rattle.vcp_base.specs.Types.{fits}
use Rattle.vcp_base.specs.declared.spot.Spot.{Spot}
use Rattle.vcp_base.specs.declared.kind.StopKind.TheVariants as why
use Rattle.vcp_typed.specs.Meaning.{Stop, in_range, unless_zero, greater}
use Rattle.st_plain.specs.declared.stop.Stop.{Stop as Cause}
use Rattle.st_plain.specs.Evaluator.{within_turns}
use Rattle.st_plain.specs.Outcomes.{outside}
use Rattle.std.specs.Int.{int_max}

pub in-range : (t : Ty) (s : Spot) (r : Result ℤ Cause) (x y : ℤ) → outside r ≡ in_range t s [] x → x ≡ y → outside r ≡ in_range t s [] y
in-range t s r x y h e = h ∙ ap (λ v. in_range t s [] v) e

-- a value of 64 bits as one of 128
abbrev wide : ℤ → ℤ
wide a = to_z w128 (of_z w128 (to_z w64 (of_z w64 a)))

wide-is : (a : ℤ) → SFits w64 a → wide a ≡ a
wide-is a f = ap (λ x. to_z w128 (of_z w128 x)) (to_z-of_z w64 a f) ∙ to_z-of_z w128 a (sfits_widen tt f)

pub widens : (a : ℤ) → SFits w64 a → SFits w128 (to_z w64 (of_z w64 a))
widens a f = subst (SFits w128) (sym (to_z-of_z w64 a f)) (sfits_widen tt f)

abs-below : (a : ℤ) → SFits w64 a → unsigned_abs a ≤ 9223372036854775808
abs-below (pos n) f = omega (arith, f.sfits)
abs-below (negsuc n) f = omega (arith, f.sfits)

product-fits : (a b : ℤ) → SFits w64 a → SFits w64 b → SFits w128 (a *ℤ b)
product-fits a b f g = fits_signed_mul w128 a b 9223372036854775808 9223372036854775808 (abs-below a f) (abs-below b g) (omega arith)

sum-fits : (a b : ℤ) → SFits w64 a → SFits w64 b → SFits w128 (a +ℤ b)
sum-fits a b f g = grind (arith, ints)

difference-fits : (a b : ℤ) → SFits w64 a → SFits w64 b → SFits w128 (a -ℤ b)
difference-fits a b f g = grind (arith, ints)

-- what is so of the values themselves is so of them in 128 bits
pub product-within : (a b : ℤ) → SFits w64 a → SFits w64 b → SFits w128 (wide a *ℤ wide b)
product-within a b f g = subst (SFits w128) (sym (λ i. wide-is a f i *ℤ wide-is b g i)) (product-fits a b f g)

pub sum-within : (a b : ℤ) → SFits w64 a → SFits w64 b → SFits w128 (wide a +ℤ wide b)
sum-within a b f g = subst (SFits w128) (sym (λ i. wide-is a f i +ℤ wide-is b g i)) (sum-fits a b f g)

pub difference-within : (a b : ℤ) → SFits w64 a → SFits w64 b → SFits w128 (wide a -ℤ wide b)
difference-within a b f g = subst (SFits w128) (sym (λ i. wide-is a f i -ℤ wide-is b g i)) (difference-fits a b f g)

pub product-is : (a b : ℤ) → SFits w64 a → SFits w64 b → to_z w128 (of_z w128 (wide a *ℤ wide b)) ≡ a *ℤ b
product-is a b f g = to_z-of_z w128 (wide a *ℤ wide b) (product-within a b f g) ∙ (λ i. wide-is a f i *ℤ wide-is b g i)

pub sum-is : (a b : ℤ) → SFits w64 a → SFits w64 b → to_z w128 (of_z w128 (wide a +ℤ wide b)) ≡ a +ℤ b
sum-is a b f g = to_z-of_z w128 (wide a +ℤ wide b) (sum-within a b f g) ∙ (λ i. wide-is a f i +ℤ wide-is b g i)

pub difference-is : (a b : ℤ) → SFits w64 a → SFits w64 b → to_z w128 (of_z w128 (wide a -ℤ wide b)) ≡ a -ℤ b
difference-is a b f g = to_z-of_z w128 (wide a -ℤ wide b) (difference-within a b f g) ∙ (λ i. wide-is a f i -ℤ wide-is b g i)

zero-less : (a : ℤ) → pos 0 -ℤ a ≡ neg_ℤ a
zero-less a = grind (arith, ints)

pub negated-within : (a : ℤ) → SFits w64 a → SFits w128 (pos 0 -ℤ wide a)
negated-within a f = subst (λ x. SFits w128 (pos 0 -ℤ x)) (sym (wide-is a f)) (difference-fits (pos 0) a (sfits_lit tt) f)

pub negated-is : (a : ℤ) → SFits w64 a → to_z w128 (of_z w128 (pos 0 -ℤ wide a)) ≡ neg_ℤ a
negated-is a f = to_z-of_z w128 (pos 0 -ℤ wide a) (negated-within a f) ∙ ap (λ x. pos 0 -ℤ x) (wide-is a f) ∙ zero-less a

inverted-fits : (a : ℤ) → fits ty.Bool a ≡ true → SFits w64 (pos 1 -ℤ a)
inverted-fits a e = grind (arith, ints)

pub inverted-within : (a : ℤ) → SFits w64 a → fits ty.Bool a ≡ true → SFits w64 (pos 1 -ℤ to_z w64 (of_z w64 a))
inverted-within a f e = subst (λ x. SFits w64 (pos 1 -ℤ x)) (sym (to_z-of_z w64 a f)) (inverted-fits a e)

pub inverted-is : (a : ℤ) → SFits w64 a → fits ty.Bool a ≡ true → to_z w64 (of_z w64 (pos 1 -ℤ to_z w64 (of_z w64 a))) ≡ pos 1 -ℤ a
inverted-is a f e = to_z-of_z w64 (pos 1 -ℤ to_z w64 (of_z w64 a)) (inverted-within a f e) ∙ ap (λ x. pos 1 -ℤ x) (to_z-of_z w64 a f)

abs-neg : (n : ℕ) → unsigned_abs (neg_ℤ (pos n)) ≡ n
abs-neg zero = refl
abs-neg (suc n) = refl

quotient-abs : (a b : ℤ) → unsigned_abs (int_div a b) ≤ unsigned_abs a
quotient-abs (pos a) (pos b) = div-le_self a b
quotient-abs (pos a) (negsuc b) = rw (abs-neg (a / suc b)) (div-le_self a (suc b))
quotient-abs (negsuc a) (pos b) = rw (abs-neg (suc a / b)) (div-le_self (suc a) b)
quotient-abs (negsuc a) (negsuc b) = div-le_self (suc a) (suc b)

quotient-small : (a b : ℤ) → SFits w64 a → unsigned_abs (int_div a b) < 2 ^ 127
quotient-small a b f = omega (arith, quotient-abs a b, abs-below a f)

pub quotient-is : (a b : ℤ) → SFits w64 a → SFits w64 b → to_z w128 (of_z w128 (int_div (wide a) (wide b))) ≡ int_div a b
quotient-is a b f g =
    ap (λ x. to_z w128 (of_z w128 x)) (λ i. int_div (wide-is a f i) (wide-is b g i))
    ∙ to_z-of_z w128 (int_div a b) (fits_signed_from_abs w128 (int_div a b) (quotient-small a b f))

pub rest-is : (a b r : ℤ) → SFits w64 a → SFits w64 b
    → (same (to_z w64 (of_z w64 b)) (pos 0) ≡ false → r ≡ int_rem (to_z w64 (of_z w64 a)) (to_z w64 (of_z w64 b)))
    → same b (pos 0) ≡ false → r ≡ int_rem a b
rest-is a b r f g h k =
    h (ap (λ x. same x (pos 0)) (to_z-of_z w64 b g) ∙ k) ∙ (λ i. int_rem (to_z-of_z w64 a f i) (to_z-of_z w64 b g i))

pub not-zero : (b : ℤ) → (of_z w64 b ≡ 0 → ⊥) → same b (pos 0) ≡ false
not-zero (pos zero) h = absurd (h refl)
not-zero (pos (suc n)) h = grind arith
not-zero (negsuc n) h = refl

-- a quotient or a remainder, where the divisor isn't 0
pub divided : (t : Ty) (s : Spot) (r : Result ℤ Cause) (b x y : ℤ) → outside r ≡ in_range t s [] x → x ≡ y → (of_z w64 b ≡ 0 → ⊥)
    → outside r ≡ unless_zero b s [] (in_range t s [] y)
divided t s r b x y h e k =
    in-range t s r x y h e ∙ sym (ap (λ z. cond z (unless_zero (pos 0) s [] (in_range t s [] y)) (in_range t s [] y)) (not-zero b k))

-- what is answered of two values, from what is so of their bits
pub from-two : (f : ℤ → ℤ → ℤ) (a b r : ℤ) → SFits w64 a → SFits w64 b → r ≡ f (to_z w64 (of_z w64 a)) (to_z w64 (of_z w64 b)) → r ≡ f a b
from-two f a b r g h e = e ∙ (λ i. f (to_z-of_z w64 a g i) (to_z-of_z w64 b h i))

pub of-two : (f : ℤ → ℤ → ℤ) (a b r : ℤ) → SFits w64 a → SFits w64 b → SFits w64 r → r ≡ f (to_z w64 (of_z w64 a)) (to_z w64 (of_z w64 b))
    → to_z w64 (of_z w64 r) ≡ f a b
of-two f a b r g h k e = to_z-of_z w64 r k ∙ from-two f a b r g h e

pub max-is : (a b : ℤ) → int_max a b ≡ greater a b
max-is a b = grind (arith, ints)

pub magnitude-within : (n : ℕ) → n < 18446744073709551616 → SFits w128 (pos n)
magnitude-within n h = record { sfits = omega (arith, h) }

pub magnitude-is : (a : ℤ) (n : ℕ) → SFits w64 a → n < 18446744073709551616 → n ≡ unsigned_abs (to_z w64 (of_z w64 a))
    → to_z w128 (of_z w128 (pos n)) ≡ pos (unsigned_abs a)
magnitude-is a n f h e = to_z-of_z w128 (pos n) (magnitude-within n h) ∙ ap (λ m. pos m) e ∙ ap (λ x. pos (unsigned_abs x)) (to_z-of_z w64 a f)

zero-is : (a : ℤ) → SFits w64 a → of_z w64 a ≡ 0 → a ≡ pos 0
zero-is a f h = sym (to_z-of_z w64 a f) ∙ ap (λ n. to_z w64 n) h

-- the argument that SEL chooses
pub chosen-first : (a b c : ℤ) → SFits w64 a → of_z w64 a ≡ 0 → b ≡ cond (same a (pos 0)) b c
chosen-first a b c f h = sym (ap (λ x. cond (same x (pos 0)) b c) (zero-is a f h))

pub chosen-other : (a b c : ℤ) → (of_z w64 a ≡ 0 → ⊥) → c ≡ cond (same a (pos 0)) b c
chosen-other a b c h = sym (ap (λ x. cond x b c) (not-zero a h))

some-bits : (b : ℤ) → SFits w64 b → (of_z w64 b ≡ 0 → ⊥) → 0 < of_z w128 b
some-bits (pos zero) f h = absurd (h refl)
some-bits (pos (suc n)) f h = omega arith
some-bits (negsuc n) f h = omega (arith, f.sfits)

pub quotient-fits : (a b : ℤ) → SFits w64 a → SFits w64 b → (of_z w64 b ≡ 0 → ⊥)
    → (0 < of_z w128 (to_z w64 (of_z w64 b))) × SFits w128 (int_div (wide a) (wide b))
quotient-fits a b f g h = (
  subst (λ x. 0 < of_z w128 x) (sym (to_z-of_z w64 b g)) (some-bits b g h),
  subst (SFits w128) (sym (λ i. int_div (wide-is a f i) (wide-is b g i))) (fits_signed_from_abs w128 (int_div a b) (quotient-small a b f)),
)

-- the stop of a division by 0
pub by-zero : (b : ℤ) (s : Spot) (c : Cause) (x : Result ℤ Stop) → SFits w64 b → of_z w64 b ≡ 0 → c.kind ≡ why.DivZero → c.spot ≡ s
    → Err (within_turns [] c) ≡ unless_zero b s [] x
by-zero b s c x f h kind spot =
    (λ i. Err (record { kind = kind i; spot = spot i; turns = [] })) ∙ sym (ap (λ z. unless_zero z s [] x) (zero-is b f h))
