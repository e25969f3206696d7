-- TurnsFit: the values that a FOR takes are of the type of its bounds.
use Rattle.std.proofs.Common.{◌≡◌, ℕ, zero, suc, ◌+◌, ◌-◌, ◌*◌, ◌/◌, ◌≤◌, ℤ, pos, negsuc, ◌+ℤ◌, ◌-ℤ◌, ◌≤ℤ◌, Bool, true, false, cond, ◌&&◌, int_le, int_lt}
use Rattle.std.proofs.Common.{unsigned_abs, refl, sym, subst, arith}
use Rattle.std.proofs.lemmas.Int.{ints}
use Rattle.vcp_base.specs.declared.ty.Ty.{Ty}
use Rattle.vcp_base.specs.Types.{least, greatest, fits}
use Rattle.vcp_typed.specs.Checked.{AreTurns}
use Rattle.st_types.specs.StmtTyping.{turns_of}

pub le-true : (a b : ℤ) → int_le a b ≡ true → a ≤ℤ b
le-true a b e = grind (arith, ints)

pub true-le : (a b : ℤ) → a ≤ℤ b → int_le a b ≡ true
true-le a b h = grind (arith, ints)

two-true : (a b : Bool) → a && b ≡ true → (a ≡ true) × (b ≡ true)
two-true true true e = (refl, refl)
two-true true false e = absurd cc
two-true false b e = absurd cc

true-two : (a b : Bool) → a ≡ true → b ≡ true → a && b ≡ true
true-two true true e f = refl
true-two true false e f = absurd cc
true-two false b e f = absurd cc

pub order-of : (t : Ty) (v : ℤ) → fits t v ≡ true → (least t ≤ℤ v) × (v ≤ℤ greatest t)
order-of t v h =
    let k = two-true (int_le (least t) v) (int_le v (greatest t)) h in
    (le-true (least t) v k.0, le-true v (greatest t) k.1)

pub fits-of : (t : Ty) (v : ℤ) → least t ≤ℤ v → v ≤ℤ greatest t → fits t v ≡ true
fits-of t v h k = true-two (int_le (least t) v) (int_le v (greatest t)) (true-le (least t) v h) (true-le v (greatest t) k)

le-trans : (a b c : ℤ) → a ≤ℤ b → b ≤ℤ c → a ≤ℤ c
le-trans a b c h k = omega (arith, ints)

-- what lies between values of a type is one
pub between : (t : Ty) (a v b : ℤ) → fits t a ≡ true → fits t b ≡ true → a ≤ℤ v → v ≤ℤ b → fits t v ≡ true
between t a v b f g h k = fits-of t v (le-trans (least t) a v (order-of t a f).0 h) (le-trans v b (greatest t) k (order-of t b g).1)

-- ---- counting up

reaches : (v w : ℤ) (d : ℕ) → v +ℤ pos d ≡ w → v ≤ℤ w
reaches v w d e = omega (arith, ints)

above : (a v : ℤ) (d : ℕ) → a ≤ℤ v → a ≤ℤ (v +ℤ pos d)
above a v d h = omega (arith, ints)

shorter : (n s d : ℕ) → suc (suc n) * s ≤ d + s → (suc n * s ≤ (d - s) + s) × (s ≤ d)
shorter n s d h = (omega arith, omega arith)

onward : (v w : ℤ) (s d : ℕ) → s ≤ d → v +ℤ pos d ≡ w → (v +ℤ pos s) +ℤ pos (d - s) ≡ w
onward v w s d h e = omega (arith, ints)

turns-up : (t : Ty) (n s d : ℕ) (a v w : ℤ) → fits t a ≡ true → fits t w ≡ true → a ≤ℤ v → v +ℤ pos d ≡ w → n * s ≤ d + s → AreTurns t n v (pos s)
turns-up t zero s d a v w f g l e h = tt
turns-up t (suc zero) s d a v w f g l e h = (between t a v w f g l (reaches v w d e), tt)
turns-up t (suc (suc n)) s d a v w f g l e h =
    let k = shorter n s d h in
    (between t a v w f g l (reaches v w d e), turns-up t (suc n) s (d - s) a (v +ℤ pos s) w f g (above a v s l) (onward v w s d k.1 e) k.0)

-- ---- counting down

falls-to : (v w : ℤ) (d : ℕ) → w +ℤ pos d ≡ v → w ≤ℤ v
falls-to v w d e = omega (arith, ints)

below : (a v : ℤ) (k : ℕ) → v ≤ℤ a → (v +ℤ negsuc k) ≤ℤ a
below a v k h = omega (arith, ints)

downward : (v w : ℤ) (k d : ℕ) → suc k ≤ d → w +ℤ pos d ≡ v → w +ℤ pos (d - suc k) ≡ v +ℤ negsuc k
downward v w k d h e = omega (arith, ints)

turns-down : (t : Ty) (n k d : ℕ) (a v w : ℤ) → fits t a ≡ true → fits t w ≡ true → v ≤ℤ a → w +ℤ pos d ≡ v → n * suc k ≤ d + suc k → AreTurns t n v (negsuc k)
turns-down t zero k d a v w f g l e h = tt
turns-down t (suc zero) k d a v w f g l e h = (between t w v a g f (falls-to v w d e) l, tt)
turns-down t (suc (suc n)) k d a v w f g l e h =
    let s = shorter n (suc k) d h in
    (between t w v a g f (falls-to v w d e) l, turns-down t (suc n) k (d - suc k) a (v +ℤ negsuc k) w f g (below a v k l) (downward v w k d s.1 e) s.0)

-- ---- the turns of a FOR

room-for : (d s : ℕ) → (d / s + 1) * s ≤ d + s
room-for d s = grind arith

le-self : (a : ℤ) → a ≤ℤ a
le-self a = omega (arith, ints)

pub distance-up : (a b : ℤ) → a ≤ℤ b → a +ℤ pos (unsigned_abs (b -ℤ a)) ≡ b
distance-up a b h = grind (arith, ints)

pub distance-down : (a b : ℤ) → b ≤ℤ a → b +ℤ pos (unsigned_abs (b -ℤ a)) ≡ a
distance-down a b h = grind (arith, ints)

up-if : (t : Ty) (a b : ℤ) (s : ℕ) (c : Bool) → int_le a b ≡ c → fits t a ≡ true → fits t b ≡ true
    → AreTurns t (cond c (unsigned_abs (b -ℤ a) / s + 1) 0) a (pos s)
up-if t a b s false e f g = tt
up-if t a b s true e f g =
    turns-up t (unsigned_abs (b -ℤ a) / s + 1) s (unsigned_abs (b -ℤ a)) a a b f g (le-self a) (distance-up a b (le-true a b e))
    (room-for (unsigned_abs (b -ℤ a)) s)

down-if : (t : Ty) (a b : ℤ) (k : ℕ) (c : Bool) → int_le b a ≡ c → fits t a ≡ true → fits t b ≡ true
    → AreTurns t (cond c (unsigned_abs (b -ℤ a) / suc k + 1) 0) a (negsuc k)
down-if t a b k false e f g = tt
down-if t a b k true e f g =
    turns-down t (unsigned_abs (b -ℤ a) / suc k + 1) k (unsigned_abs (b -ℤ a)) a a b f g (le-self a) (distance-down a b (le-true b a e))
    (room-for (unsigned_abs (b -ℤ a)) (suc k))

pub positive : (n : ℕ) → int_lt (pos 0) (pos (suc n)) ≡ true
positive n = grind (arith, ints)

-- each value of a FOR between bounds of the type is of the type
pub turns-fit : (t : Ty) (a b by : ℤ) → (by ≡ pos 0 → ⊥) → fits t a ≡ true → fits t b ≡ true → AreTurns t (turns_of a b by) a by
turns-fit t a b (pos zero) h f g = absurd (h refl)
turns-fit t a b (pos (suc n)) h f g =
    subst (λ c. AreTurns t (cond (cond c (int_le a b) (int_le b a)) (unsigned_abs (b -ℤ a) / suc n + 1) 0) a (pos (suc n))) (sym (positive n))
    (up-if t a b (suc n) (int_le a b) refl f g)
turns-fit t a b (negsuc k) h f g = down-if t a b k (int_le b a) refl f g
