-- Integers: what is between two integers, and its products, quotients and remainders.
use Rattle.std.proofs.Common.{SFits, w64, ◌≡◌, ◌≢◌, ℕ, zero, suc, ◌*◌, ◌/◌, ◌<◌, ◌≤◌, false, ℤ, pos, negsuc, neg_ℤ, ◌≤ℤ◌, ◌-ℤ◌, ◌*ℤ◌, arith, refl, sym, ap, subst, ◌∙◌, mul-le-mul_right, mod-lt}
use mir.Syntax.{w128}
use Rattle.std.specs.Int.{saturate_signed}
use Rattle.std.specs.Prelude.{int_div, int_rem, unsigned_abs}
use Rattle.std.proofs.Math.Nat.{div-le_self, div-mul-le_self, mod-le, mul-div_cancel, zero-div}
use Rattle.std.proofs.lemmas.Nat.{le-div}
use Rattle.std.proofs.Math.IntN.{*ℤ_comm}
use Rattle.std.proofs.lemmas.Int.{ints}
use Rattle.range_walk.specs.Intervals.{Between}

pub le_trans : (x y z : ℤ) → x ≤ℤ y → y ≤ℤ z → x ≤ℤ z
le_trans x y z h k = omega (arith, ints)

pub le_antisym : (x y : ℤ) → x ≤ℤ y → y ≤ℤ x → x ≡ y
le_antisym x y h k = omega (arith, ints)

pub spans : (low high v : ℤ) → low ≤ℤ v → v ≤ℤ high → Between low high false v
spans low high v l h = record { at_least = l; at_most = h; not_zero = λ e. absurd cc }

amid : (low high u w v : ℤ) → Between low high false u → Between low high false w → u ≤ℤ v → v ≤ℤ w → Between low high false v
amid low high u w v first last below above = spans low high v (le_trans low u v first.at_least below) (le_trans v w high above last.at_most)

-- what is between two integers of 64 bits is one
pub fits_amid : (low high v : ℤ) → SFits w64 low → SFits w64 high → low ≤ℤ v → v ≤ℤ high → SFits w64 v
fits_amid low high (pos n) first last below above = record { sfits = omega (arith, ints) }
fits_amid low high (negsuc n) first last below above = record { sfits = omega (arith, ints) }

-- an integer that is cut to 128 bits is on the same side of one of 64 bits
pub saturates_below : (z v : ℤ) → z ≤ℤ v → SFits w64 v → saturate_signed w128 z ≤ℤ v
saturates_below (pos n) v h fits = omega (arith, ints)
saturates_below (negsuc n) v h fits = omega (arith, ints)

pub saturates_above : (z v : ℤ) → v ≤ℤ z → SFits w64 v → v ≤ℤ saturate_signed w128 z
saturates_above (pos n) v h fits = omega (arith, ints)
saturates_above (negsuc n) v h fits = omega (arith, ints)

-- ---- negatives of naturals

neg_below : (n m : ℕ) → neg_ℤ (pos n) ≤ℤ pos m
neg_below n m = omega (arith, ints)

neg_mono : (n m : ℕ) → m ≤ n → neg_ℤ (pos n) ≤ℤ neg_ℤ (pos m)
neg_mono n m h = omega (arith, ints)

-- ---- products

times_up : (x y : ℤ) (c : ℕ) → x ≤ℤ y → (x *ℤ pos c) ≤ℤ (y *ℤ pos c)
times_up (pos a) (pos b) c h = let k : a ≤ b = omega (arith, ints) in let m = mul-le-mul_right c k in omega (arith, ints, m)
times_up (pos a) (negsuc b) c h = absurd h.le
times_up (negsuc a) (pos b) c h = neg_below (suc a * c) (b * c)
times_up (negsuc a) (negsuc b) c h = let k : suc b ≤ suc a = omega (arith, ints) in neg_mono (suc a * c) (suc b * c) (mul-le-mul_right c k)

times_down : (x y : ℤ) (c : ℕ) → x ≤ℤ y → (y *ℤ negsuc c) ≤ℤ (x *ℤ negsuc c)
times_down (pos a) (pos b) c h = let k : a ≤ b = omega (arith, ints) in neg_mono (b * suc c) (a * suc c) (mul-le-mul_right (suc c) k)
times_down (pos a) (negsuc b) c h = absurd h.le
times_down (negsuc a) (pos b) c h = neg_below (b * suc c) (suc a * suc c)
times_down (negsuc a) (negsuc b) c h = let k : suc b ≤ suc a = omega (arith, ints) in let m = mul-le-mul_right (suc c) k in omega (arith, ints, m)

-- products of what is between two integers
edge : (l h x y low high : ℤ) → l ≤ℤ x → x ≤ℤ h → Between low high false (l *ℤ y) → Between low high false (h *ℤ y) → Between low high false (x *ℤ y)
edge l h x (pos c) low high below above first last = amid low high (l *ℤ pos c) (h *ℤ pos c) _ first last (times_up l x c below) (times_up x h c above)
edge l h x (negsuc c) low high below above first last =
    amid low high (h *ℤ negsuc c) (l *ℤ negsuc c) _ last first (times_down x h c above) (times_down l x c below)

turned : (x y low high : ℤ) → Between low high false (x *ℤ y) → Between low high false (y *ℤ x)
turned x y low high b = subst (λ z. Between low high false z) (*ℤ_comm x y) b

-- what has the four products of the ends has the product
pub product_within : (l h l' h' x y low high : ℤ) → l ≤ℤ x → x ≤ℤ h → l' ≤ℤ y → y ≤ℤ h' → Between low high false (l *ℤ l')
    → Between low high false (l *ℤ h') → Between low high false (h *ℤ l') → Between low high false (h *ℤ h') → Between low high false (x *ℤ y)
product_within l h l' h' x y low high below above below' above' ll lh hl hh =
    edge l h x y low high below above
    (turned y l low high (edge l' h' y l low high below' above' (turned l l' low high ll) (turned l h' low high lh)))
    (turned y h low high (edge l' h' y h low high below' above' (turned h l' low high hl) (turned h h' low high hh)))

times_some : (a b : ℕ) → suc a * suc b ≢ 0
times_some a b e = omega arith

-- a product of integers that aren't 0 isn't 0
pub product_nonzero : (x y : ℤ) → x ≢ pos 0 → y ≢ pos 0 → (x *ℤ y) ≢ pos 0
product_nonzero (pos zero) y h k e = h refl
product_nonzero (pos (suc a)) (pos zero) h k e = k refl
product_nonzero (pos (suc a)) (pos (suc b)) h k e = let f : suc a * suc b ≡ 0 = cc in times_some a b f
product_nonzero (pos (suc a)) (negsuc b) h k e = let m = times_some a b in omega (arith, ints, m)
product_nonzero (negsuc a) (pos zero) h k e = k refl
product_nonzero (negsuc a) (pos (suc b)) h k e = let m = times_some a b in omega (arith, ints, m)
product_nonzero (negsuc a) (negsuc b) h k e = let f : suc a * suc b ≡ 0 = cc in times_some a b f

-- ---- quotients

div_mono : (a b k : ℕ) → a ≤ b → a / suc k ≤ b / suc k
div_mono a b k h = le-div (a / suc k) b (suc k) (omega arith) (omega (arith, div-mul-le_self a (suc k)))

-- the divisor is above 0
quot_up : (x y : ℤ) (k : ℕ) → x ≤ℤ y → int_div x (pos (suc k)) ≤ℤ int_div y (pos (suc k))
quot_up (pos a) (pos b) k h = let m = div_mono a b k (omega (arith, ints)) in omega (arith, ints, m)
quot_up (pos a) (negsuc b) k h = absurd h.le
quot_up (negsuc a) (pos b) k h = neg_below (suc a / suc k) (b / suc k)
quot_up (negsuc a) (negsuc b) k h = neg_mono (suc a / suc k) (suc b / suc k) (div_mono (suc b) (suc a) k (omega (arith, ints)))

-- the divisor is below 0
quot_down : (x y : ℤ) (k : ℕ) → x ≤ℤ y → int_div y (negsuc k) ≤ℤ int_div x (negsuc k)
quot_down (pos a) (pos b) k h = neg_mono (b / suc k) (a / suc k) (div_mono a b k (omega (arith, ints)))
quot_down (pos a) (negsuc b) k h = absurd h.le
quot_down (negsuc a) (pos b) k h = neg_below (b / suc k) (suc a / suc k)
quot_down (negsuc a) (negsuc b) k h = let m = div_mono (suc b) (suc a) k (omega (arith, ints)) in omega (arith, ints, m)

-- what has the quotients of both ends has the quotient
pub quotient_within : (l h x k low high : ℤ) → k ≢ pos 0 → l ≤ℤ x → x ≤ℤ h → Between low high false (int_div l k) → Between low high false (int_div h k)
    → Between low high false (int_div x k)
quotient_within l h x (pos zero) low high some below above first last = absurd (some refl)
quotient_within l h x (pos (suc k)) low high some below above first last =
    amid low high (int_div l (pos (suc k))) (int_div h (pos (suc k))) _ first last (quot_up l x k below) (quot_up x h k above)
quotient_within l h x (negsuc k) low high some below above first last =
    amid low high (int_div h (negsuc k)) (int_div l (negsuc k)) _ last first (quot_down x h k above) (quot_down l x k below)

-- by a positive divisor a value comes nearer to 0
pub shrinks : (x y low high : ℤ) → pos 1 ≤ℤ y → low ≤ℤ pos 0 → pos 0 ≤ℤ high → low ≤ℤ x → x ≤ℤ high → Between low high false (int_div x y)
shrinks (pos a) (pos b) low high some l h below above = let k = div-le_self a b in spans _ _ _ (omega (arith, ints)) (omega (arith, ints))
shrinks (negsuc a) (pos b) low high some l h below above = let k = div-le_self (suc a) b in spans _ _ _ (omega (arith, ints)) (omega (arith, ints))
shrinks x (negsuc b) low high some l h below above = absurd some.le

-- by any divisor a value comes no further from 0
pub sized : (x y s : ℤ) → neg_ℤ s ≤ℤ x → x ≤ℤ s → Between (neg_ℤ s) s false (int_div x y)
sized (pos a) (pos b) s low high = let k = div-le_self a b in spans _ _ _ (omega (arith, ints)) (omega (arith, ints))
sized (pos a) (negsuc b) s low high = let k = div-le_self a (suc b) in spans _ _ _ (omega (arith, ints)) (omega (arith, ints))
sized (negsuc a) (pos b) s low high = let k = div-le_self (suc a) b in spans _ _ _ (omega (arith, ints)) (omega (arith, ints))
sized (negsuc a) (negsuc b) s low high = let k = div-le_self (suc a) (suc b) in spans _ _ _ (omega (arith, ints)) (omega (arith, ints))

-- ---- remainders

abs_some : (y : ℤ) → y ≢ pos 0 → 0 < unsigned_abs y
abs_some (pos zero) h = absurd (h refl)
abs_some (pos (suc n)) h = omega arith
abs_some (negsuc n) h = omega arith

abs_most : (y s : ℤ) → neg_ℤ s ≤ℤ y → y ≤ℤ s → pos (unsigned_abs y) ≤ℤ s
abs_most (pos n) s low high = high
abs_most (negsuc n) s low high = omega (arith, ints)

-- it is smaller in size than the divisor
pub rest_sized : (x y s : ℤ) → y ≢ pos 0 → neg_ℤ s ≤ℤ y → y ≤ℤ s → Between (pos 1 -ℤ s) (s -ℤ pos 1) false (int_rem x y)
rest_sized (pos a) y s some low high =
    let k = abs_most y s low high in let j = mod-lt a (abs_some y some) in spans _ _ _ (omega (arith, ints)) (omega (arith, ints))
rest_sized (negsuc a) y s some low high =
    let k = abs_most y s low high in let j = mod-lt (suc a) (abs_some y some) in spans _ _ _ (omega (arith, ints)) (omega (arith, ints))

-- it is no further from 0 than the dividend
pub rest_shrinks : (x y low high : ℤ) → low ≤ℤ pos 0 → pos 0 ≤ℤ high → low ≤ℤ x → x ≤ℤ high → Between low high false (int_rem x y)
rest_shrinks (pos a) y low high l h below above = let k = mod-le a (unsigned_abs y) in spans _ _ _ (omega (arith, ints)) (omega (arith, ints))
rest_shrinks (negsuc a) y low high l h below above = let k = mod-le (suc a) (unsigned_abs y) in spans _ _ _ (omega (arith, ints)) (omega (arith, ints))

-- ---- quotients of products

quot_negative : (n b : ℕ) → int_div (neg_ℤ (pos n)) (pos (suc b)) ≡ neg_ℤ (pos (n / suc b))
quot_negative zero b = subst (λ q. pos q ≡ neg_ℤ (pos q)) (sym (zero-div (suc b))) refl
quot_negative (suc n) b = refl

negative_quot : (n b : ℕ) → int_div (neg_ℤ (pos n)) (negsuc b) ≡ pos (n / suc b)
negative_quot zero b = subst (λ q. neg_ℤ (pos q) ≡ pos q) (sym (zero-div (suc b))) refl
negative_quot (suc n) b = refl

-- a product by an integer that isn't 0, divided by it
pub quot_times : (x y : ℤ) → y ≢ pos 0 → int_div (x *ℤ y) y ≡ x
quot_times (pos a) (pos zero) some = absurd (some refl)
quot_times (pos a) (pos (suc b)) some = ap pos (mul-div_cancel a {n = suc b} (omega arith))
quot_times (negsuc a) (pos zero) some = absurd (some refl)
quot_times (negsuc a) (pos (suc b)) some = quot_negative (suc a * suc b) b ∙ ap (λ n. neg_ℤ (pos n)) (mul-div_cancel (suc a) {n = suc b} (omega arith))
quot_times (pos a) (negsuc b) some = negative_quot (a * suc b) b ∙ ap pos (mul-div_cancel a {n = suc b} (omega arith))
quot_times (negsuc a) (negsuc b) some = ap (λ n. neg_ℤ (pos n)) (mul-div_cancel (suc a) {n = suc b} (omega arith))
