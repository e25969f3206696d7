-- ValueBounds: the bounds of each kind's value, by the ranges of its operands.
use Rattle.std.proofs.Common.{◌≡◌, ◌≢◌, ◌⊎◌, inl, inr, ℤ, pos, ◌-ℤ◌, ◌≤ℤ◌, ◌<ℤ◌, Bool, true, false, T, refl, sym, subst, not, arith}
use Rattle.std.specs.Prelude.{int_le, int_lt}
use Rattle.std.proofs.lemmas.Int.{ints}
use Rattle.std.proofs.lemmas.Bool.{and_parts, and_from, both_ways, false_from_ne_true, not_from_false, not_from_true}
use Rattle.vcp_base.specs.declared.ty.Ty.{Ty}
use Rattle.vcp_base.specs.declared.kind.Kind.{Kind}
use Rattle.vcp_base.specs.declared.kind.Kind.TheVariants as kind
use Rattle.vcp_base.specs.Kinds.{same, truth, value, divides_by_zero}
use Rattle.vcp_base.specs.Types.{fits, least, greatest}
use Rattle.range_walk.specs.declared.range.Bounds.{Bounds}
use Rattle.range_walk.specs.declared.range.Range.{Range}
use Rattle.range_walk.specs.Intervals.{Between, IsIn, IsWithin}
use Rattle.range_walk.proofs.Integers.{le_antisym, spans}

-- ---- tests

is_true : (b : Bool) → b ≡ true → T b
is_true true h = tt
is_true false h = absurd cc

true_is : (b : Bool) → T b → b ≡ true
true_is true h = refl
true_is false h = absurd h

pub tested : (x y : ℤ) → int_le x y ≡ true → x ≤ℤ y
tested x y h = record { le = is_true (int_le x y) h }

pub below : (x y : ℤ) → int_lt x y ≡ true → x <ℤ y
below x y h = record { lt = is_true (int_lt x y) h }

pub passes : (x y : ℤ) → x ≤ℤ y → int_le x y ≡ true
passes x y h = true_is (int_le x y) h.le

-- the two are one integer
pub same_is : (x y : ℤ) → same x y ≡ true → x ≡ y
same_is x y h = le_antisym x y (tested x y (and_parts (int_le x y) (int_le y x) h).0) (tested y x (and_parts (int_le x y) (int_le y x) h).1)

pub is_same : (x y : ℤ) → x ≡ y → same x y ≡ true
is_same x y h = and_from (int_le x y) (int_le y x) (passes x y (omega (arith, ints))) (passes y x (omega (arith, ints)))

-- ---- types

pub fits_between : (t : Ty) (v : ℤ) → fits t v ≡ true → Between (least t) (greatest t) false v
fits_between t v fit =
    let parts = and_parts (int_le (least t) v) (int_le v (greatest t)) fit in
    spans (least t) (greatest t) v (tested (least t) v parts.0) (tested v (greatest t) parts.1)

pub between_fits : (t : Ty) (v : ℤ) → least t ≤ℤ v → v ≤ℤ greatest t → fits t v ≡ true
between_fits t v l h = and_from (int_le (least t) v) (int_le v (greatest t)) (passes (least t) v l) (passes v (greatest t) h)

-- ---- truths

pub truth_between : (b : Bool) → Between (pos 0) (pos 1) false (truth b)
truth_between true = spans _ _ _ (omega (arith, ints)) (omega (arith, ints))
truth_between false = spans _ _ _ (omega (arith, ints)) (omega (arith, ints))

pub only_truth : (r : Bounds) (b c : Bool) → b ≡ c → IsWithin r (truth c) → IsWithin r (truth b)
only_truth r b c e h = subst (λ d. IsWithin r (truth d)) (sym e) h

pub moved : (r : Range) (x y : ℤ) → x ≡ y → IsIn r x → IsIn r y
moved r x y e h = subst (λ v. IsIn r v) e h

-- x isn't k, as its range leaves k out
pub other_than : (r : Range) (x k : ℤ) → (IsIn r k → ⊥) → IsIn r x → same x k ≡ false
other_than r x k out i = false_from_ne_true (same x k) (λ h. out (moved r x k (same_is x k h) i))

-- bounds of whether two values are equal, where it may be seen that the ranges have one value, or that they share none
pub equal : (a b : Range) (same_one none : Bool) (bounds : Bounds) (x y : ℤ) → IsIn a x → IsIn b y
    → ((t : Bool) → (same_one ≡ true → t ≡ true) → (none ≡ true → t ≡ false) → IsWithin bounds (truth t))
    → (same_one ≡ true → (x y : ℤ) → IsIn a x → IsIn b y → x ≡ y) → (none ≡ true → (x : ℤ) → IsIn a x → IsIn b x → ⊥)
    → IsWithin bounds (truth (same x y))
equal a b same_one none bounds x y i j found one apart =
    found (same x y) (λ e. is_same x y (one e x y i j)) (λ e. false_from_ne_true (same x y) (λ h. apart e x i (moved b y x (sym (same_is x y h)) j)))

-- bounds of whether they differ
pub differing : (a b : Range) (none same_one : Bool) (bounds : Bounds) (x y : ℤ) → IsIn a x → IsIn b y
    → ((t : Bool) → (none ≡ true → t ≡ true) → (same_one ≡ true → t ≡ false) → IsWithin bounds (truth t))
    → (none ≡ true → (x : ℤ) → IsIn a x → IsIn b x → ⊥) → (same_one ≡ true → (x y : ℤ) → IsIn a x → IsIn b y → x ≡ y)
    → IsWithin bounds (truth (not (same x y)))
differing a b none same_one bounds x y i j found apart one =
    found (not (same x y))
    (λ e. not_from_false (same x y) (false_from_ne_true (same x y) (λ h. apart e x i (moved b y x (sym (same_is x y h)) j))))
    (λ e. not_from_true (same x y) (is_same x y (one e x y i j)))

pub is_less_than : (x y : ℤ) → x <ℤ y → int_lt x y ≡ true
is_less_than x y h = true_is (int_lt x y) h.lt

pub not_less_than : (x y : ℤ) → y ≤ℤ x → int_lt x y ≡ false
not_less_than x y h = false_from_ne_true (int_lt x y) (λ t.
    let less = below x y t in
    omega (arith, ints))

-- ---- a value and itself

pub nothing_left : (x : ℤ) → pos 0 ≡ (x -ℤ x)
nothing_left x = omega (arith, ints)

pub same_itself : (x : ℤ) → same x x ≡ true
same_itself x = is_same x x refl

pub less_than_itself : (x : ℤ) → int_lt x x ≡ false
less_than_itself x = not_less_than x x (omega (arith, ints))

-- a divisor that isn't 0
pub not_divided : (y : ℤ) → same y (pos 0) ≡ false → y ≢ pos 0
not_divided y h e = both_ways (same y (pos 0)) h (is_same y (pos 0) e)

pub not_by_zero : (k : Kind) (y : ℤ) → (k ≡ kind.Div) ⊎ (k ≡ kind.Mod) → y ≢ pos 0 → divides_by_zero k y ≡ false
not_by_zero k y (inl e) some = subst (λ t. divides_by_zero t y ≡ false) (sym e) (false_from_ne_true (same y (pos 0)) (λ t. some (same_is y (pos 0) t)))
not_by_zero k y (inr e) some = subst (λ t. divides_by_zero t y ≡ false) (sym e) (false_from_ne_true (same y (pos 0)) (λ t. some (same_is y (pos 0) t)))

-- ---- what an operation gives that reads none

pub given_value : (k : Kind) (imm x y z : ℤ) → (k ≡ kind.Input) ⊎ (k ≡ kind.Const) → value k imm x y z ≡ imm
given_value k imm x y z (inl e) = subst (λ t. value t imm x y z ≡ imm) (sym e) refl
given_value k imm x y z (inr e) = subst (λ t. value t imm x y z ≡ imm) (sym e) refl
