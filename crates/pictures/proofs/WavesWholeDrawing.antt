-- WavesWholeDrawing: in each column in each cycle the value there is drawn, and nothing else.
use Rattle.std.proofs.Common.{◌≡◌, ◌≢◌, ◌⊎◌, inl, inr, ℕ, zero, suc, ◌+◌, ◌-◌, ◌<◌, ◌≤◌, ◌==◌, ◌&&◌, Bool, true, false, cond, nat_le, nat_lt, List, [], ◌∷◌, ◌++◌, length, refl, sym, ap, ◌∙◌, arith}
use Rattle.std.proofs.lemmas.List.{append-nil}
use Rattle.std.proofs.lemmas.Bool.Decides.{nat_tests}
use Rattle.pictures.specs.declared.waves.stretches.Stretch.{Stretch}
use Rattle.pictures.specs.RunOf.{Recorded}
use Rattle.vcp_outside.specs.Drawing.{each_below}
use Rattle.pictures.specs.WavesDrawn.{value_at, step_of, end_of, stretch_of, stretches_from, lane, lanes}
use Rattle.pictures.specs.WavesWhole.{is_in, drawn_in, IsToldOnce, IsWhole}
use Rattle.pictures.proofs.WavesGoing.{each_suc}
use Rattle.pictures.proofs.StretchEnds.{grows, within, value_behind_start}

eq_self : (n : ℕ) → (n == n) ≡ true
eq_self n = grind (arith, nat_tests)

eq_other : (n m : ℕ) → n ≢ m → (n == m) ≡ false
eq_other n m h = grind (arith, nat_tests)

and_false : (b : Bool) → (b && false) ≡ false
and_false true = refl
and_false false = refl

by_test : (s : Stretch) (xs ys : List Stretch) (b : Bool) → cond b (s ∷ (xs ++ ys)) (xs ++ ys) ≡ cond b (s ∷ xs) xs ++ ys
by_test s xs ys true = refl
by_test s xs ys false = refl

both_in : (k c : ℕ) (xs ys : List Stretch) → drawn_in k c (xs ++ ys) ≡ drawn_in k c xs ++ drawn_in k c ys
both_in k c [] ys = refl
both_in k c (s ∷ xs) ys = rw (both_in k c xs ys) (by_test s (drawn_in k c xs) (drawn_in k c ys) (is_in k c s))

one_in : (k c : ℕ) (s : Stretch) (more : List Stretch) (b : Bool) → is_in k c s ≡ b → drawn_in k c (s ∷ more) ≡ cond b (s ∷ drawn_in k c more) (drawn_in k c more)
one_in k c s more b e = rw e refl

last_or_before : (c n : ℕ) → c < suc n → (c ≡ n) ⊎ (c < n)
last_or_before zero zero h = inl refl
last_or_before zero (suc n) h = inr (omega arith)
last_or_before (suc c) zero h = absurd (omega arith)
last_or_before (suc c) (suc n) h = up (last_or_before c n (omega arith))
  where
    up : (c ≡ n) ⊎ (c < n) → (suc c ≡ suc n) ⊎ (suc c < suc n)
    up (inl e) = inl (ap suc e)
    up (inr l) = inr (omega arith)

before_or_behind : (c n : ℕ) → (c < n) ⊎ (n ≤ c)
before_or_behind zero zero = inr (omega arith)
before_or_behind zero (suc n) = inl (omega arith)
before_or_behind (suc c) zero = inr (omega arith)
before_or_behind (suc c) (suc n) = up (before_or_behind c n)
  where
    up : (c < n) ⊎ (n ≤ c) → (suc c < suc n) ⊎ (suc n ≤ suc c)
    up (inl l) = inl (omega arith)
    up (inr l) = inr (omega arith)

-- ---- one column

is_less : (m n : ℕ) → m < n → nat_lt m n ≡ true
is_less m n h = grind (arith, nat_tests)

is_not_less : (m n : ℕ) → n ≤ m → nat_lt m n ≡ false
is_not_less m n h = grind (arith, nat_tests)

is_no_more : (m n : ℕ) → m ≤ n → nat_le m n ≡ true
is_no_more m n h = grind (arith, nat_tests)

is_more : (m n : ℕ) → n < m → nat_le m n ≡ false
is_more m n h = grind (arith, nat_tests)

-- the stretches from a cycle on, where there is one, and where there is none
pub some_left : (run : Recorded) (column start most : ℕ) → start < length run.rows
    → stretches_from run column start (suc most) ≡ stretch_of run column start ∷ stretches_from run column (end_of run column start) most
some_left run column start most h = rw (is_less start (length run.rows) h) refl

pub none_left : (run : Recorded) (column start most : ℕ) → length run.rows ≤ start → stretches_from run column start most ≡ []
none_left run column start zero h = refl
none_left run column start (suc most) h = rw (is_not_less start (length run.rows) h) refl

-- nothing is drawn where no stretch is
nowhere : (run : Recorded) (k c column start most : ℕ)
    → ((at : ℕ) → start ≤ at → at < length run.rows → is_in k c (stretch_of run column at) ≡ false)
    → drawn_in k c (stretches_from run column start most) ≡ []
nowhere run k c column start zero none = refl
nowhere run k c column start (suc most) none =
    by_place (before_or_behind start (length run.rows)) (λ later. nowhere run k c column (end_of run column start) most later)
  where
    by_place : (start < length run.rows) ⊎ (length run.rows ≤ start)
        → (((at : ℕ) → end_of run column start ≤ at → at < length run.rows → is_in k c (stretch_of run column at) ≡ false)
        → drawn_in k c (stretches_from run column (end_of run column start) most) ≡ [])
        → drawn_in k c (stretches_from run column start (suc most)) ≡ []
    by_place (inl l) further =
        ap (drawn_in k c) (some_left run column start most l)
        ∙ (one_in k c (stretch_of run column start) (stretches_from run column (end_of run column start) most) false (none start (omega arith) l)
        ∙ further (λ at low less. let more = grows run column start l in none at (omega (arith, low, more)) less))
    by_place (inr l) further = ap (drawn_in k c) (none_left run column start (suc most) l)

not_column : (run : Recorded) (k c column at : ℕ) → column ≢ k → is_in k c (stretch_of run column at) ≡ false
not_column run k c column at h = rw (eq_other column k h) refl

not_begun : (run : Recorded) (k c column at : ℕ) → c < at → is_in k c (stretch_of run column at) ≡ false
not_begun run k c column at h = rw (is_more at c h) (and_false (column == k))

no_end : (k c column at end : ℕ) → end ≤ c → ((column == k) && (nat_le at c && nat_lt c end)) ≡ false
no_end k c column at end h = rw (is_not_less c end h, and_false (nat_le at c)) (and_false (column == k))

not_later : (run : Recorded) (k c column at : ℕ) → end_of run column at ≤ c → is_in k c (stretch_of run column at) ≡ false
not_later run k c column at h = no_end k c column at (end_of run column at) h

is_here : (run : Recorded) (k c at : ℕ) → at ≤ c → c < end_of run k at → is_in k c (stretch_of run k at) ≡ true
is_here run k c at low high = rw (eq_self k, is_no_more at c low, is_less c (end_of run k at) high) refl

other_column : (run : Recorded) (k c column : ℕ) → column ≢ k → drawn_in k c (lane run column) ≡ []
other_column run k c column h = nowhere run k c column 0 (length run.rows) (λ at low less. not_column run k c column at h)

later_cycle : (run : Recorded) (k c column : ℕ) → length run.rows ≤ c → drawn_in k c (lane run column) ≡ []
later_cycle run k c column h =
    nowhere run k c column 0 (length run.rows)
    (λ at low less. let end = within run column at less in not_later run k c column at (omega (arith, h, end)))

-- ---- the stretch of a cycle

told : (run : Recorded) (k c start most : ℕ) → start ≤ c → c < end_of run k start → start < length run.rows
    → drawn_in k c (stretches_from run k (end_of run k start) most) ≡ []
    → IsToldOnce run k c (drawn_in k c (stretch_of run k start ∷ stretches_from run k (end_of run k start) most))
told run k c start most low high less none =
    let more = grows run k start less in
    let at : start + (c - start) ≡ c = omega (arith, low) in
    let end : start + (end_of run k start - (start + 1)) ≡ end_of run k start - 1 = omega (arith, more) in
    let here = value_behind_start run k start (c - start) (omega (arith, low, high)) in
    let last = value_behind_start run k start (end_of run k start - (start + 1)) (omega (arith, more)) in
    record {
      stretch = stretch_of run k start;
      once = one_in k c (stretch_of run k start) (stretches_from run k (end_of run k start) most) true (is_here run k c start low high)
          ∙ ap (λ (t : List Stretch). stretch_of run k start ∷ t) none;
      step = step_of run k start;
      here = ap (value_at run k) (sym at) ∙ here;
      last = ap (value_at run k) (sym end) ∙ last;
    }

same : (run : Recorded) (k c : ℕ) (xs ys : List Stretch) → ys ≡ xs → IsToldOnce run k c xs → IsToldOnce run k c ys
same run k c xs ys e is = record { stretch = is.stretch; once = e ∙ is.once; step = is.step; here = is.here; last = is.last }

in_lane : (run : Recorded) (k c start most : ℕ) → start ≤ c → c < length run.rows → length run.rows ≤ start + most
    → IsToldOnce run k c (drawn_in k c (stretches_from run k start most))
in_lane run k c start zero low high enough = absurd (omega (arith, low, high, enough))
in_lane run k c start (suc most) low high enough =
    let less : start < length run.rows = omega (arith, low, high) in
    let more = grows run k start less in
    by_place less (before_or_behind c (end_of run k start)) (λ l. in_lane run k c (end_of run k start) most l high (omega (arith, more, enough)))
  where
    by_place : start < length run.rows → (c < end_of run k start) ⊎ (end_of run k start ≤ c)
        → (end_of run k start ≤ c → IsToldOnce run k c (drawn_in k c (stretches_from run k (end_of run k start) most)))
        → IsToldOnce run k c (drawn_in k c (stretches_from run k start (suc most)))
    by_place less (inl l) further =
        let none : drawn_in k c (stretches_from run k (end_of run k start) most) ≡ [] =
        nowhere run k c k (end_of run k start) most (λ at from within. not_begun run k c k at (omega (arith, from, l))) in
        same run k c _ _ (ap (drawn_in k c) (some_left run k start most less)) (told run k c start most low l less none)
    by_place less (inr l) further =
        same run k c _ _
        (ap (drawn_in k c) (some_left run k start most less)
        ∙ one_in k c (stretch_of run k start) (stretches_from run k (end_of run k start) most) false (not_later run k c k start l))
        (further l)

same_column : (run : Recorded) (k c : ℕ) → c < length run.rows → IsToldOnce run k c (drawn_in k c (lane run k))
same_column run k c h = in_lane run k c 0 (length run.rows) (omega arith) h (omega arith)

-- ---- all columns

column_more : (run : Recorded) (k c n : ℕ) → drawn_in k c (each_below (lane run) (suc n)) ≡ drawn_in k c (each_below (lane run) n) ++ drawn_in k c (lane run n)
column_more run k c n = ap (drawn_in k c) (each_suc (lane run) n) ∙ both_in k c (each_below (lane run) n) (lane run n)

later_column : (run : Recorded) (k c n : ℕ) → n ≤ k → drawn_in k c (each_below (lane run) n) ≡ []
later_column run k c zero h = refl
later_column run k c (suc n) h =
    column_more run k c n ∙ rw (later_column run k c n (omega arith)) (other_column run k c n (λ e. absurd (omega arith)))

in_columns : (run : Recorded) (k c n : ℕ) → k < n → drawn_in k c (each_below (lane run) n) ≡ drawn_in k c (lane run k)
in_columns run k c zero h = absurd (omega arith)
in_columns run k c (suc n) h = by_case (last_or_before k n h) (λ l. in_columns run k c n l)
  where
    by_case : (k ≡ n) ⊎ (k < n) → (k < n → drawn_in k c (each_below (lane run) n) ≡ drawn_in k c (lane run k))
        → drawn_in k c (each_below (lane run) (suc n)) ≡ drawn_in k c (lane run k)
    by_case (inl e) before = column_more run k c n ∙ rw (later_column run k c n (omega arith)) (ap (λ (i : ℕ). drawn_in k c (lane run i)) (sym e))
    by_case (inr l) before =
        column_more run k c n
        ∙ (ap (λ (t : List Stretch). drawn_in k c (each_below (lane run) n) ++ t) (other_column run k c n (λ e. absurd (omega arith)))
        ∙ (append-nil (drawn_in k c (each_below (lane run) n)) ∙ before l))

no_cycle : (run : Recorded) (k c n : ℕ) → length run.rows ≤ c → drawn_in k c (each_below (lane run) n) ≡ []
no_cycle run k c zero h = refl
no_cycle run k c (suc n) h = column_more run k c n ∙ rw (no_cycle run k c n h) (later_cycle run k c n h)

pub whole : (run : Recorded) → IsWhole run (lanes run)
whole run = record {
  once = λ k c h g. same run k c _ _ (in_columns run k c (length run.names) h) (same_column run k c g);
  no_other_column = λ k c h. later_column run k c (length run.names) (omega arith);
  no_other_cycle = λ k c h. no_cycle run k c (length run.names) (omega arith);
}
