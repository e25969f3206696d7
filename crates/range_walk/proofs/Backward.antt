-- Backward: what the value of a kind tells of its operands.
use Rattle.std.proofs.Common.{◌≡◌, ◌≢◌, ℤ, pos, ◌-ℤ◌, ◌<ℤ◌, ◌≤ℤ◌, inl, inr, Bool, true, false, ◌&&◌, ◌||◌, cond, refl, subst, arith}
use Rattle.std.specs.Prelude.{int_lt}
use Rattle.std.proofs.lemmas.Int.{ints}
use Rattle.std.proofs.lemmas.Bool.{both_ways}
use Rattle.vcp_base.specs.Kinds.{same, truth}
use Rattle.range_walk.specs.declared.range.Range.{Range}
use Rattle.range_walk.specs.Intervals.{IsIn}
use Rattle.range_walk.specs.Walking.{Joins}
use Rattle.range_walk.proofs.Conditions.{said_true, said_false, and_parts, or_parts, chosen_no, chosen_yes}
use Rattle.range_walk.proofs.ValueBounds.{below, same_is, is_same}

-- a value that is in a range without 1 isn't 1
pub not_there : (r : Range) (v k : ℤ) → (IsIn r k → ⊥) → IsIn r v → v ≢ k
not_there r v k out i e = out (subst (λ w. IsIn r w) e i)

pub twice_denied : (x : ℤ) → pos 1 -ℤ (pos 1 -ℤ x) ≡ x
twice_denied x = omega (arith, ints)

pub and_joins : (x y : ℤ) → Joins true (truth (same x (pos 1) && same y (pos 1))) x y
and_joins x y = record {
  both = λ h. (and_parts true x y h).0;
  rest = λ h one. elim (and_parts false x y h) [ inl p ↦ p | inr p ↦ absurd (p one) ];
}

pub or_joins : (x y : ℤ) → Joins false (truth (same x (pos 1) || same y (pos 1))) x y
or_joins x y = record {
  both = λ h. (or_parts false x y h).0;
  rest = λ h other. elim (or_parts true x y h) [ inl p ↦ p | inr p ↦ absurd (other p) ];
}

pub equal_by : (x y : ℤ) → truth (same x y) ≡ pos 1 → x ≡ y
equal_by x y h = same_is x y (said_true (same x y) h)

pub unequal_by : (x y : ℤ) → truth (same x y) ≢ pos 1 → x ≢ y
unequal_by x y h = λ e. both_ways (same x y) (said_false (same x y) h) (is_same x y e)

pub less_by : (x y : ℤ) → truth (int_lt x y) ≡ pos 1 → x <ℤ y
less_by x y h = below x y (said_true (int_lt x y) h)

not_less_is : (x y : ℤ) → int_lt x y ≡ false → y ≤ℤ x
not_less_is x y h = grind (arith, ints)

pub no_less_by : (x y : ℤ) → truth (int_lt x y) ≢ pos 1 → y ≤ℤ x
no_less_by x y h = not_less_is x y (said_false (int_lt x y) h)

pub no_taken : (r : Range) (x y z : ℤ) → IsIn r (cond (same x (pos 0)) y z) → x ≡ pos 0 → IsIn r y
no_taken r x y z i zero = subst (λ v. IsIn r v) (chosen_no x y z (cond (same x (pos 0)) y z) refl zero) i

pub yes_taken : (r : Range) (x y z : ℤ) → IsIn r (cond (same x (pos 0)) y z) → x ≢ pos 0 → IsIn r z
yes_taken r x y z i other = subst (λ v. IsIn r v) (chosen_yes x y z (cond (same x (pos 0)) y z) refl other) i

zero_by : (x y z : ℤ) (r : Range) (b : Bool) → same x (pos 0) ≡ b → IsIn r (cond b y z) → (IsIn r z → ⊥) → x ≡ pos 0
zero_by x y z r true e i out = same_is x (pos 0) e
zero_by x y z r false e i out = absurd (out i)

-- what is taken can't be the second of the two, so the condition is 0
pub must_be_zero : (x y z : ℤ) (r : Range) → IsIn r (cond (same x (pos 0)) y z) → (IsIn r z → ⊥) → x ≡ pos 0
must_be_zero x y z r i out = zero_by x y z r (same x (pos 0)) refl i out
