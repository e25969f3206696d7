-- TurnsAre: a FOR takes exactly the values first, first + by and so on that aren't past its last bound.
use Rattle.std.proofs.Common.{◌≡◌, ℕ, zero, suc, ◌+◌, ◌*◌, ◌/◌, ◌<◌, ◌≤◌, ◌↔◌, ℤ, pos, negsuc, ◌+ℤ◌, ◌-ℤ◌, ◌≤ℤ◌, Bool, true, false, cond, int_le, unsigned_abs}
use Rattle.std.proofs.Common.{refl, sym, ◌∙◌, subst, arith, true≢false}
use Rattle.std.proofs.Math.Nat.{le-div_iff_mul-le}
use Rattle.std.proofs.lemmas.Int.{ints}
use Rattle.st_types.specs.StmtTyping.{begins, turns_of}
use Rattle.st_types.specs.Turns.{turn_value}
use Rattle.st_types.proofs.TurnsFit.{le-true, true-le, distance-up, distance-down, positive}

some-below : (n m : ℕ) → n < m + 1 → n ≤ m
some-below n m h = omega (arith, h)

below-next : (n m : ℕ) → n ≤ m → n < m + 1
below-next n m h = omega (arith, h)

none-below : (n : ℕ) → n < 0 → ⊥
none-below n h = omega (arith, h)

-- n turns of the step lie within the way d exactly where n is at most d / step
pub within-way : (n d s : ℕ) → (n < d / suc s + 1) ↔ (n * suc s ≤ d)
within-way n d s = (
  λ h. (le-div_iff_mul-le (omega arith)).0 (some-below n (d / suc s) h),
  λ h. below-next n (d / suc s) ((le-div_iff_mul-le (omega arith)).1 h),
)

-- ---- counting up

value-up : (n s : ℕ) (v : ℤ) → turn_value v (pos s) n ≡ v +ℤ pos (n * s)
value-up zero s v = omega (arith, ints)
value-up (suc n) s v =
    let e = value-up n s (v +ℤ pos s) in
    omega (arith, ints, e)

up-to : (v w : ℤ) (d m : ℕ) → v +ℤ pos d ≡ w → m ≤ d → (v +ℤ pos m) ≤ℤ w
up-to v w d m e h = omega (arith, ints)

to-up : (v w : ℤ) (d m : ℕ) → v +ℤ pos d ≡ w → (v +ℤ pos m) ≤ℤ w → m ≤ d
to-up v w d m e h = omega (arith, ints)

not-less : (v w : ℤ) (m : ℕ) → (v +ℤ pos m) ≤ℤ w → v ≤ℤ w
not-less v w m h = omega (arith, ints)

takes-up : (a b : ℤ) (s n : ℕ) (c : Bool) → int_le a b ≡ c
    → (n < cond c (unsigned_abs (b -ℤ a) / suc s + 1) 0) ↔ (int_le (turn_value a (pos (suc s)) n) b ≡ true)
takes-up a b s n false e = (
  λ h. absurd (none-below n h),
  λ h. absurd (true≢false (sym (true-le a b (not-less a b (n * suc s) (subst (λ v. v ≤ℤ b) (value-up n (suc s) a) (le-true _ b h)))) ∙ e)),
)
takes-up a b s n true e =
    let d = distance-up a b (le-true a b e) in (
      λ h. true-le _ b
          (subst (λ v. v ≤ℤ b) (sym (value-up n (suc s) a)) (up-to a b (unsigned_abs (b -ℤ a)) (n * suc s) d ((within-way n (unsigned_abs (b -ℤ a)) s).0 h))),
      λ h. (within-way n (unsigned_abs (b -ℤ a)) s).1
          (to-up a b (unsigned_abs (b -ℤ a)) (n * suc s) d (subst (λ v. v ≤ℤ b) (value-up n (suc s) a) (le-true _ b h))),
    )

-- ---- counting down

value-down : (n k : ℕ) (v : ℤ) → turn_value v (negsuc k) n +ℤ pos (n * suc k) ≡ v
value-down zero k v = omega (arith, ints)
value-down (suc n) k v =
    let e = value-down n k (v +ℤ negsuc k) in
    omega (arith, ints, e)

down-to : (u v w : ℤ) (d m : ℕ) → w +ℤ pos d ≡ v → u +ℤ pos m ≡ v → m ≤ d → w ≤ℤ u
down-to u v w d m e f h = omega (arith, ints)

to-down : (u v w : ℤ) (d m : ℕ) → w +ℤ pos d ≡ v → u +ℤ pos m ≡ v → w ≤ℤ u → m ≤ d
to-down u v w d m e f h = omega (arith, ints)

not-more : (u v w : ℤ) (m : ℕ) → u +ℤ pos m ≡ v → w ≤ℤ u → w ≤ℤ v
not-more u v w m e h = omega (arith, ints)

takes-down : (a b : ℤ) (k n : ℕ) (c : Bool) → int_le b a ≡ c
    → (n < cond c (unsigned_abs (b -ℤ a) / suc k + 1) 0) ↔ (int_le b (turn_value a (negsuc k) n) ≡ true)
takes-down a b k n false e = (
  λ h. absurd (none-below n h),
  λ h. absurd (true≢false (sym (true-le b a (not-more (turn_value a (negsuc k) n) a b (n * suc k) (value-down n k a) (le-true b _ h))) ∙ e)),
)
takes-down a b k n true e =
    let d = distance-down a b (le-true b a e) in (
      λ h. true-le b _
          (down-to (turn_value a (negsuc k) n) a b (unsigned_abs (b -ℤ a)) (n * suc k) d (value-down n k a) ((within-way n (unsigned_abs (b -ℤ a)) k).0 h)),
      λ h. (within-way n (unsigned_abs (b -ℤ a)) k).1
          (to-down (turn_value a (negsuc k) n) a b (unsigned_abs (b -ℤ a)) (n * suc k) d (value-down n k a) (le-true b _ h)),
    )

-- ---- the turns of a FOR

pub turns-are : (a b by : ℤ) (n : ℕ) → (by ≡ pos 0 → ⊥) → (n < turns_of a b by) ↔ (begins (turn_value a by n) b by ≡ true)
turns-are a b (pos zero) n h = absurd (h refl)
turns-are a b (pos (suc s)) n h =
    subst (λ c. (n < cond (cond c (int_le a b) (int_le b a)) (unsigned_abs (b -ℤ a) / suc s + 1) 0)
    ↔ (cond c (int_le (turn_value a (pos (suc s)) n) b) (int_le b (turn_value a (pos (suc s)) n)) ≡ true)) (sym (positive s))
    (takes-up a b s n (int_le a b) refl)
turns-are a b (negsuc k) n h = takes-down a b k n (int_le b a) refl
