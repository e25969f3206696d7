-- StretchEnds: where a stretch ends, and that its value changes by one step up to there.
use Rattle.std.proofs.Common.{◌≡◌, ◌⊎◌, inl, inr, ℕ, zero, suc, ◌+◌, ◌-◌, ◌<◌, ◌≤◌, Bool, true, false, cond, length, refl, sym, ap, ◌∙◌, arith, ℤ, pos, ◌+ℤ◌, ◌-ℤ◌, ◌*ℤ◌, ◌&&◌, nat_lt, to_z, of_z, SFits}
use mir.Syntax.{w128}
use Rattle.std.specs.Ordering.{int_eq}
use Rattle.std.proofs.Math.IntN.{suc_ℤ-*ℤ, zero-*ℤ}
use Rattle.std.proofs.lemmas.Bool.Decides.{nat_tests, Decides-int_eq}
use Rattle.std.proofs.lemmas.Int.{ints, to_z-of_z}
use Rattle.pictures.specs.RunOf.{Recorded}
use Rattle.pictures.specs.WavesDrawn.{value_at, change_at, step_of, until, end_of}

-- ---- the step at a cycle

is_false : (t : Bool) → (t ≡ true → ⊥) → t ≡ false
is_false true other = absurd (other refl)
is_false false other = refl

early : (m n : ℕ) → m < n → nat_lt m n ≡ true
early m n h = grind (arith, nat_tests)

late : (m n : ℕ) → n ≤ m → nat_lt m n ≡ false
late m n h = grind (arith, nat_tests)

same_number : (x y : ℤ) → SFits w128 x → SFits w128 y → of_z w128 x ≡ of_z w128 y → x ≡ y
same_number x y fits_x fits_y e = sym (to_z-of_z w128 x fits_x) ∙ (ap (to_z w128) e ∙ to_z-of_z w128 y fits_y)

-- where no two changes are left
pub no_step : (run : Recorded) (column cycle cycles : ℕ) → cycles ≡ length run.rows → cycles ≤ cycle + 2 → pos 0 ≡ step_of run column cycle
no_step run column cycle cycles e few =
    let a = change_at run column (cycle + 1) in
    let b = change_at run column (cycle + 2) in
    sym (ap (λ (n : ℕ). cond (nat_lt (cycle + 2) n && int_eq a b) a (pos 0)) (sym e)
    ∙ ap (λ (t : Bool). cond (t && int_eq a b) a (pos 0)) (late (cycle + 2) cycles few))

step_by : (run : Recorded) (column cycle cycles : ℕ) (same : Bool) → cycles ≡ length run.rows → cycle + 2 < cycles
    → int_eq (change_at run column (cycle + 1)) (change_at run column (cycle + 2)) ≡ same
    → step_of run column cycle ≡ cond same (change_at run column (cycle + 1)) (pos 0)
step_by run column cycle cycles same e left is =
    let a = change_at run column (cycle + 1) in
    let b = change_at run column (cycle + 2) in
    ap (λ (n : ℕ). cond (nat_lt (cycle + 2) n && int_eq a b) a (pos 0)) (sym e)
    ∙ (ap (λ (t : Bool). cond (t && int_eq a b) a (pos 0)) (early (cycle + 2) cycles left) ∙ ap (λ (t : Bool). cond t a (pos 0)) is)

-- where the next two changes are the same
pub one_step : (run : Recorded) (column cycle cycles : ℕ) (next behind : ℤ) → SFits w128 next → SFits w128 behind → cycles ≡ length run.rows
    → cycle + 2 < cycles → next ≡ change_at run column (cycle + 1) → behind ≡ change_at run column (cycle + 2) → of_z w128 next ≡ of_z w128 behind
    → to_z w128 (of_z w128 next) ≡ step_of run column cycle
one_step run column cycle cycles next behind fits_next fits_behind e left first second is =
    let a = change_at run column (cycle + 1) in
    let b = change_at run column (cycle + 2) in
    let same = (Decides-int_eq a b).1 (sym first ∙ (same_number next behind fits_next fits_behind is ∙ second)) in
    to_z-of_z w128 next fits_next ∙ (first ∙ sym (step_by run column cycle cycles true e left same))

-- and where they are others
pub other_step : (run : Recorded) (column cycle cycles : ℕ) (next behind : ℤ) → cycles ≡ length run.rows
    → cycle + 2 < cycles → next ≡ change_at run column (cycle + 1) → behind ≡ change_at run column (cycle + 2)
    → (of_z w128 next ≡ of_z w128 behind → ⊥) → pos 0 ≡ step_of run column cycle
other_step run column cycle cycles next behind e left first second other =
    let a = change_at run column (cycle + 1) in
    let b = change_at run column (cycle + 2) in
    let not = is_false (int_eq a b) (λ t. other (ap (of_z w128) (first ∙ ((Decides-int_eq a b).0 t ∙ sym second)))) in
    sym (step_by run column cycle cycles false e left not)

-- ---- from a cycle on

pub goes_on : (run : Recorded) (column : ℕ) (step : ℤ) (cycle left : ℕ) → int_eq (change_at run column cycle) step ≡ true
    → until run column step cycle (suc left) ≡ until run column step (cycle + 1) left
goes_on run column step cycle left e = rw e refl

pub stops : (run : Recorded) (column : ℕ) (step : ℤ) (cycle left : ℕ) → int_eq (change_at run column cycle) step ≡ false
    → until run column step cycle (suc left) ≡ cycle
stops run column step cycle left e = rw e refl

-- it doesn't end before it begins, nor behind what is left
pub record IsBetween (cycle left end : ℕ) : Type 0 where
  pub low : cycle ≤ end
  pub high : end ≤ cycle + left

pub between : (run : Recorded) (column : ℕ) (step : ℤ) (cycle left : ℕ) → IsBetween cycle left (until run column step cycle left)
between run column step cycle zero = record { low = omega arith; high = omega arith }
between run column step cycle (suc left) = by_test (int_eq (change_at run column cycle) step) (between run column step (cycle + 1) left)
  where
    by_test : (b : Bool) → IsBetween (cycle + 1) left (until run column step (cycle + 1) left)
        → IsBetween cycle (suc left) (cond b (until run column step (cycle + 1) left) cycle)
    by_test true more = record { low = omega (arith, more.low); high = omega (arith, more.high) }
    by_test false more = record { low = omega arith; high = omega arith }

first_or_more : (m n : ℕ) → m ≤ n → (m ≡ n) ⊎ (m + 1 ≤ n)
first_or_more zero zero h = inl refl
first_or_more zero (suc n) h = inr (omega arith)
first_or_more (suc m) zero h = absurd (omega (arith, h))
first_or_more (suc m) (suc n) h = up (first_or_more m n (omega (arith, h)))
  where
    up : (m ≡ n) ⊎ (m + 1 ≤ n) → (suc m ≡ suc n) ⊎ (suc m + 1 ≤ suc n)
    up (inl e) = inl (ap suc e)
    up (inr l) = inr (omega (arith, l))

-- up to its end the value changes by the step
pub steps : (run : Recorded) (column : ℕ) (step : ℤ) (cycle left at : ℕ) → cycle ≤ at → at < until run column step cycle left → change_at run column at ≡ step
steps run column step cycle zero at low high = absurd (omega (arith, low, high))
steps run column step cycle (suc left) at low high =
    by_test (int_eq (change_at run column cycle) step) refl high (λ more less. steps run column step (cycle + 1) left at more less)
  where
    by_place : change_at run column cycle ≡ step → (cycle + 1 ≤ at → change_at run column at ≡ step) → (cycle ≡ at) ⊎ (cycle + 1 ≤ at) → change_at run column at ≡ step
    by_place here more (inl e) = rw (sym e) here
    by_place here more (inr l) = more l

    place : (cycle ≡ at) ⊎ (cycle + 1 ≤ at)
    place = first_or_more cycle at low

    by_test : (b : Bool) → int_eq (change_at run column cycle) step ≡ b → at < cond b (until run column step (cycle + 1) left) cycle
        → (cycle + 1 ≤ at → at < until run column step (cycle + 1) left → change_at run column at ≡ step) → change_at run column at ≡ step
    by_test true e less more = by_place ((Decides-int_eq (change_at run column cycle) step).0 e) (λ l. more l less) place
    by_test false e less more = absurd (omega (arith, low, less))

-- ---- a stretch

pub ends : (run : Recorded) (column start : ℕ) → start < length run.rows → IsBetween (start + 1) (length run.rows - (start + 1)) (end_of run column start)
ends run column start h = between run column (step_of run column start) (start + 1) (length run.rows - (start + 1))

pub grows : (run : Recorded) (column start : ℕ) → start < length run.rows → start < end_of run column start
grows run column start h = let is = ends run column start h in omega (arith, is.low)

pub within : (run : Recorded) (column start : ℕ) → start < length run.rows → end_of run column start ≤ length run.rows
within run column start h = let is = ends run column start h in omega (arith, h, is.high)

-- a sum, and one with a step more
linear : (first a b step before here : ℤ) → before ≡ first +ℤ a → here -ℤ before ≡ step → b ≡ a +ℤ step → here ≡ first +ℤ b
linear first a b step before here e change more = omega (arith, ints, e, change, more)

nothing_more : (first z : ℤ) → z ≡ pos zero → first ≡ first +ℤ z
nothing_more first z e = omega (arith, ints, e)

times_more : (k : ℕ) (step : ℤ) → pos (suc k) *ℤ step ≡ pos k *ℤ step +ℤ step
times_more k step = suc_ℤ-*ℤ (pos k) step

-- the value so many cycles behind the start
pub value_behind_start : (run : Recorded) (column start k : ℕ) → start + k < end_of run column start
    → value_at run column (start + k) ≡ value_at run column start +ℤ pos k *ℤ step_of run column start
value_behind_start run column start zero h =
    let at : start + zero ≡ start = omega arith in
    let step = step_of run column start in
    ap (value_at run column) at ∙ nothing_more (value_at run column start) (pos zero *ℤ step) (zero-*ℤ step)
value_behind_start run column start (suc k) h =
    let step = step_of run column start in
    let before = value_behind_start run column start k (omega (arith, h)) in
    let at : start + suc k - 1 ≡ start + k = omega arith in
    let change = steps run column step (start + 1) (length run.rows - (start + 1)) (start + suc k) (omega arith) h in
    linear (value_at run column start) (pos k *ℤ step) (pos (suc k) *ℤ step) step (value_at run column (start + k)) (value_at run column (start + suc k)) before
    (ap (λ (m : ℕ). value_at run column (start + suc k) -ℤ value_at run column m) (sym at) ∙ change) (times_more k step)
