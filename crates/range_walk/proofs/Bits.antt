-- Bits: an integer that is passed on in its bits is the same integer.
use Rattle.std.proofs.Common.{◌≡◌, ℕ, zero, suc, ◌≤◌, ◌*◌, ◌^◌, ℤ, pos, negsuc, neg_ℤ, ◌≤ℤ◌, ◌<ℤ◌, ◌+ℤ◌, ◌-ℤ◌, ◌*ℤ◌, mul-le-mul, true, sym, ap, subst, ◌∙◌, to_z, of_z, SFits, w64, arith, rules}
use Rattle.std.specs.Int.{int_max, int_min}
use Rattle.std.specs.Prelude.{int_div, int_le}
use Rattle.std.proofs.lemmas.Int.{to_z-of_z, ints, clamps}
use mir.Syntax.{Width, w128}
use Rattle.vcp_base.specs.declared.ty.Ty.{Ty}
use Rattle.vcp_base.specs.Types.{fits, least, greatest}
use Rattle.range_walk.proofs.Integers.{le_trans, sized}
use Rattle.range_walk.proofs.ValueBounds.{tested, between_fits}

-- an operation on two
pub of_bits : (w : Width) (f : ℤ → ℤ → ℤ) (x y : ℤ) → SFits w x → SFits w y → f (to_z w (of_z w x)) (to_z w (of_z w y)) ≡ f x y
of_bits w f x y p q = ap (λ z. f z (to_z w (of_z w y))) (to_z-of_z w x p) ∙ ap (f x) (to_z-of_z w y q)

-- what is below an integer, or above it
pub below_bits : (w : Width) (m x y : ℤ) → SFits w x → x ≡ y → m ≤ℤ to_z w (of_z w x) → m ≤ℤ y
below_bits w m x y f e h = subst (λ z. m ≤ℤ z) (to_z-of_z w x f ∙ e) h

pub above_bits : (w : Width) (m x y : ℤ) → SFits w x → x ≡ y → to_z w (of_z w x) ≤ℤ m → y ≤ℤ m
above_bits w m x y f e h = subst (λ z. z ≤ℤ m) (to_z-of_z w x f ∙ e) h

-- ---- what is kept in bits is no more and no less

pub low_bits : (w : Width) (z v : ℤ) → SFits w z → z ≤ℤ v → to_z w (of_z w z) ≤ℤ v
low_bits w z v f h = subst (λ x. x ≤ℤ v) (sym (to_z-of_z w z f)) h

pub high_bits : (w : Width) (z v : ℤ) → SFits w z → v ≤ℤ z → v ≤ℤ to_z w (of_z w z)
high_bits w z v f h = subst (λ x. v ≤ℤ x) (sym (to_z-of_z w z f)) h

-- ---- integers of 64 bits in 128

abbrev pub wide : ℤ → ℤ
wide z = to_z w128 (of_z w128 (to_z w64 (of_z w64 z)))

widened : (z : ℤ) → SFits w64 z → SFits w128 z
widened (pos n) f = record { sfits = omega (arith, ints) }
widened (negsuc n) f = record { sfits = omega (arith, ints) }

pub wide_is : (z : ℤ) → SFits w64 z → wide z ≡ z
wide_is z f = ap (λ x. to_z w128 (of_z w128 x)) (to_z-of_z w64 z f) ∙ to_z-of_z w128 z (widened z f)

-- such a cast, and a sum and a difference of two, fit
pub cast_fits : (z : ℤ) → SFits w64 z → SFits w128 (to_z w64 (of_z w64 z))
cast_fits z f = subst (SFits w128) (sym (to_z-of_z w64 z f)) (widened z f)

fit_by : (f : ℤ → ℤ → ℤ) (x y : ℤ) → SFits w64 x → SFits w64 y → SFits w128 (f x y) → SFits w128 (f (wide x) (wide y))
fit_by f x y p q h =
    subst (λ z. SFits w128 (f z (wide y))) (sym (wide_is x p)) (subst (λ z. SFits w128 (f x z)) (sym (wide_is y q)) h)

added : (x y : ℤ) → SFits w64 x → SFits w64 y → SFits w128 (x +ℤ y)
added x y p q = search (ints, rules)

taken_away : (x y : ℤ) → SFits w64 x → SFits w64 y → SFits w128 (x -ℤ y)
taken_away x y p q = search (ints, rules)

-- the size of a product of two, and that it fits
below_product : (a b : ℕ) → a ≤ 2 ^ 63 → b ≤ 2 ^ 63 → a * b ≤ 2 ^ 126
below_product a b h k = mul-le-mul h k

opposite_fits : (n : ℕ) → n ≤ 2 ^ 126 → SFits w128 (neg_ℤ (pos n))
opposite_fits zero h = record { sfits = omega (arith, ints) }
opposite_fits (suc n) h = record { sfits = omega (arith, ints) }

multiplied : (x y : ℤ) → SFits w64 x → SFits w64 y → SFits w128 (x *ℤ y)
multiplied (pos a) (pos b) f g =
    let most = below_product a b (omega (arith, f.sfits)) (omega (arith, g.sfits)) in
    record { sfits = omega (arith, most) }
multiplied (pos a) (negsuc b) f g = opposite_fits (a * suc b) (below_product a (suc b) (omega (arith, f.sfits)) (omega (arith, g.sfits)))
multiplied (negsuc a) (pos b) f g = opposite_fits (suc a * b) (below_product (suc a) b (omega (arith, f.sfits)) (omega (arith, g.sfits)))
multiplied (negsuc a) (negsuc b) f g =
    let most = below_product (suc a) (suc b) (omega (arith, f.sfits)) (omega (arith, g.sfits)) in
    record { sfits = omega (arith, most) }

pub product_fits : (x y : ℤ) → SFits w64 x → SFits w64 y → SFits w128 (wide x *ℤ wide y)
product_fits x y p q = fit_by (λ a b. a *ℤ b) x y p q (multiplied x y p q)

pub product_is : (x y : ℤ) → SFits w64 x → SFits w64 y → to_z w128 (of_z w128 (wide x *ℤ wide y)) ≡ x *ℤ y
product_is x y p q =
    ap (λ z. to_z w128 (of_z w128 z)) (ap (λ z. z *ℤ wide y) (wide_is x p) ∙ ap (λ z. x *ℤ z) (wide_is y q))
    ∙ to_z-of_z w128 (x *ℤ y) (multiplied x y p q)

pub sum_fits : (x y : ℤ) → SFits w64 x → SFits w64 y → SFits w128 (wide x +ℤ wide y)
sum_fits x y p q = fit_by (λ a b. a +ℤ b) x y p q (added x y p q)

pub difference_fits : (x y : ℤ) → SFits w64 x → SFits w64 y → SFits w128 (wide x -ℤ wide y)
difference_fits x y p q = fit_by (λ a b. a -ℤ b) x y p q (taken_away x y p q)

one_fits : SFits w64 (pos 1)
one_fits = record { sfits = omega (arith, ints) }

pub more_fits : (x : ℤ) → SFits w64 x → SFits w128 (wide x +ℤ pos 1)
more_fits x p = subst (λ z. SFits w128 (z +ℤ pos 1)) (sym (wide_is x p)) (added x (pos 1) p one_fits)

pub less_fits : (x : ℤ) → SFits w64 x → SFits w128 (wide x -ℤ pos 1)
less_fits x p = subst (λ z. SFits w128 (z -ℤ pos 1)) (sym (wide_is x p)) (taken_away x (pos 1) p one_fits)

pub wide_low : (z v : ℤ) → SFits w64 z → z ≤ℤ v → wide z ≤ℤ v
wide_low z v f h = subst (λ x. x ≤ℤ v) (sym (wide_is z f)) h

pub wide_high : (z v : ℤ) → SFits w64 z → v ≤ℤ z → v ≤ℤ wide z
wide_high z v f h = subst (λ x. v ≤ℤ x) (sym (wide_is z f)) h

pub sum_low : (a b x y : ℤ) → SFits w64 a → SFits w64 b → a ≤ℤ x → b ≤ℤ y → to_z w128 (of_z w128 (wide a +ℤ wide b)) ≤ℤ (x +ℤ y)
sum_low a b x y f g h k = omega (arith, ints)

pub sum_high : (a b x y : ℤ) → SFits w64 a → SFits w64 b → x ≤ℤ a → y ≤ℤ b → (x +ℤ y) ≤ℤ to_z w128 (of_z w128 (wide a +ℤ wide b))
sum_high a b x y f g h k = omega (arith, ints)

pub difference_low : (a b x y : ℤ) → SFits w64 a → SFits w64 b → a ≤ℤ x → y ≤ℤ b → to_z w128 (of_z w128 (wide a -ℤ wide b)) ≤ℤ (x -ℤ y)
difference_low a b x y f g h k = omega (arith, ints)

pub difference_high : (a b x y : ℤ) → SFits w64 a → SFits w64 b → x ≤ℤ a → b ≤ℤ y → (x -ℤ y) ≤ℤ to_z w128 (of_z w128 (wide a -ℤ wide b))
difference_high a b x y f g h k = omega (arith, ints)

pub negative_low : (a x : ℤ) → SFits w64 a → x ≤ℤ a → to_z w128 (of_z w128 (pos 0 -ℤ wide a)) ≤ℤ neg_ℤ x
negative_low a x f h = omega (arith, ints)

pub negative_high : (a x : ℤ) → SFits w64 a → a ≤ℤ x → neg_ℤ x ≤ℤ to_z w128 (of_z w128 (pos 0 -ℤ wide a))
negative_high a x f h = omega (arith, ints)

-- one less than an end, and one more
pub less_high : (b x y : ℤ) → SFits w64 b → x <ℤ y → y ≤ℤ b → x ≤ℤ to_z w128 (of_z w128 (wide b -ℤ pos 1))
less_high b x y f h k = omega (arith, ints)

pub more_low : (a x y : ℤ) → SFits w64 a → a ≤ℤ x → x <ℤ y → to_z w128 (of_z w128 (wide a +ℤ pos 1)) ≤ℤ y
more_low a x y f h k = omega (arith, ints)

-- ---- quotients

-- what is no greater in size than one of 64 bits
small_fits : (v : ℤ) → neg_ℤ (pos 9223372036854775808) ≤ℤ v → v ≤ℤ pos 9223372036854775808 → SFits w128 v
small_fits (pos n) least most = record { sfits = omega (arith, ints) }
small_fits (negsuc n) least most = record { sfits = omega (arith, ints) }

quotient_fits : (x k : ℤ) → SFits w64 x → SFits w128 (int_div x k)
quotient_fits x k f =
    let is = sized x k (pos 9223372036854775808) (omega (arith, ints)) (omega (arith, ints)) in small_fits (int_div x k) is.at_least is.at_most

pub quotient_is : (x k : ℤ) → SFits w64 x → SFits w64 k → to_z w128 (of_z w128 (int_div (wide x) (wide k))) ≡ int_div x k
quotient_is x k f g =
    ap (λ z. to_z w128 (of_z w128 z)) (ap (λ z. int_div z (wide k)) (wide_is x f) ∙ ap (int_div x) (wide_is k g))
    ∙ to_z-of_z w128 (int_div x k) (quotient_fits x k f)

pub zero_in_bits : (k : ℤ) → SFits w64 k → of_z w64 k ≡ 0 → k ≡ pos 0
zero_in_bits k f e = sym (to_z-of_z w64 k f) ∙ ap (λ n. to_z w64 n) e

-- ---- the greater and the lesser of two

pub greater_low : (a b r v : ℤ) → SFits w64 a → SFits w64 b → r ≡ int_max (to_z w64 (of_z w64 a)) (to_z w64 (of_z w64 b)) → SFits w64 r → a ≤ℤ v → b ≤ℤ v
    → to_z w64 (of_z w64 r) ≤ℤ v
greater_low a b r v f g e k first second = omega (arith, ints, clamps)

pub lesser_high : (a b r v : ℤ) → SFits w64 a → SFits w64 b → r ≡ int_min (to_z w64 (of_z w64 a)) (to_z w64 (of_z w64 b)) → SFits w64 r → v ≤ℤ a → v ≤ℤ b
    → v ≤ℤ to_z w64 (of_z w64 r)
lesser_high a b r v f g e k first second = omega (arith, ints, clamps)

-- an end that is moved into a range of 64 bits
pub clamped_low : (low b r v : ℤ) → SFits w64 low → SFits w128 b → SFits w128 r
    → r ≡ int_max (wide low) (int_min (to_z w128 (of_z w128 b)) (pos 9223372036854775807)) → low ≤ℤ v → b ≤ℤ v
    → to_z w64 (of_z w64 (to_z w128 (of_z w128 r))) ≤ℤ v
clamped_low low b r v f g k e first second = omega (arith, ints, clamps)

pub clamped_high : (high b r v : ℤ) → SFits w64 high → SFits w128 b → SFits w128 r
    → r ≡ int_max (negsuc 9223372036854775807) (int_min (to_z w128 (of_z w128 b)) (wide high)) → v ≤ℤ high → v ≤ℤ b
    → v ≤ℤ to_z w64 (of_z w64 (to_z w128 (of_z w128 r)))
clamped_high high b r v f g k e first second = omega (arith, ints, clamps)

-- an end that is moved nearer to 0 than a size
pub near_low : (m s r v : ℤ) → SFits w64 m → SFits w128 s → SFits w128 r → negsuc 9223372036854775807 ≤ℤ s → s ≤ℤ pos 9223372036854775808
    → r ≡ int_max (wide m) (to_z w128 (of_z w128 (pos 1 -ℤ to_z w128 (of_z w128 s)))) → m ≤ℤ v → (pos 1 -ℤ s) ≤ℤ v → to_z w128 (of_z w128 r) ≤ℤ v
near_low m s r v f g k least most e first second = omega (arith, ints, clamps)

pub near_high : (m s r v : ℤ) → SFits w64 m → SFits w128 s → SFits w128 r → negsuc 9223372036854775807 ≤ℤ s → s ≤ℤ pos 9223372036854775808
    → r ≡ int_min (wide m) (to_z w128 (of_z w128 (to_z w128 (of_z w128 s) -ℤ pos 1))) → v ≤ℤ m → v ≤ℤ (s -ℤ pos 1) → v ≤ℤ to_z w128 (of_z w128 r)
near_high m s r v f g k least most e first second = omega (arith, ints, clamps)

-- what is no more than an end is no more than what is above that
pub below_low : (a r v : ℤ) → SFits w64 a → r ≤ℤ to_z w64 (of_z w64 a) → a ≤ℤ v → r ≤ℤ v
below_low a r v f h k = le_trans r _ v h (low_bits w64 a v f k)

pub above_high : (a r v : ℤ) → SFits w64 a → to_z w64 (of_z w64 a) ≤ℤ r → v ≤ℤ a → v ≤ℤ r
above_high a r v f h k = le_trans v _ r (high_bits w64 a v f k) h

-- ---- sizes

pub size_low : (l r x : ℤ) → SFits w64 l → SFits w128 r → to_z w128 (of_z w128 (pos 0 -ℤ wide l)) ≤ℤ r → l ≤ℤ x → neg_ℤ (to_z w128 (of_z w128 r)) ≤ℤ x
size_low l r x f g h k = omega (arith, ints)

pub size_high : (h r x : ℤ) → SFits w64 h → SFits w128 r → wide h ≤ℤ r → x ≤ℤ h → x ≤ℤ to_z w128 (of_z w128 r)
size_high h r x f g k above = omega (arith, ints)

pub size_least : (h r : ℤ) → SFits w64 h → SFits w128 r → wide h ≤ℤ r → negsuc 9223372036854775807 ≤ℤ to_z w128 (of_z w128 r)
size_least h r f g k = omega (arith, ints)

pub size_most : (h l r : ℤ) → SFits w64 h → SFits w64 l → SFits w128 r → r ≡ int_max (wide h) (to_z w128 (of_z w128 (pos 0 -ℤ wide l)))
    → to_z w128 (of_z w128 r) ≤ℤ pos 9223372036854775808
size_most h l r f g k e = omega (arith, ints, clamps)

-- ---- types

same_le : (x y z w : ℤ) → x ≡ y → z ≡ w → x ≤ℤ z → y ≤ℤ w
same_le x y z w e f h = subst (λ v. v ≤ℤ w) e (subst (λ v. x ≤ℤ v) f h)

-- what is between integers that were compared with the ends of a type is of the type
pub of_type_by : (t : Ty) (first last low high v : ℤ) → SFits w64 first → SFits w64 last → SFits w128 low → SFits w128 high → first ≡ least t
    → last ≡ greatest t → int_le (wide first) (to_z w128 (of_z w128 low)) ≡ true → int_le (to_z w128 (of_z w128 high)) (wide last) ≡ true → low ≤ℤ v → v ≤ℤ high
    → fits t v ≡ true
of_type_by t first last low high v ff lf lowf highf fe le a b below above =
    between_fits t v
    (le_trans (least t) low v (same_le _ _ _ _ (wide_is first ff ∙ fe) (to_z-of_z w128 low lowf) (tested (wide first) (to_z w128 (of_z w128 low)) a)) below)
    (le_trans v high (greatest t) above
    (same_le _ _ _ _ (to_z-of_z w128 high highf) (wide_is last lf ∙ le) (tested (to_z w128 (of_z w128 high)) (wide last) b)))
