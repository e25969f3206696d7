-- Crossing: what is reached from the LOAD of each cell is handed on to its STORE.
use Rattle.std.proofs.Common.{◌≡◌, ◌≢◌, ◌⊎◌, ⊎_elim, inl, inr, ℕ, zero, suc, ◌+◌, ◌<◌, ◌≤◌, ◌==◌, ◌&&◌, nat_le, cond, Bool, true, false, List, [], ◌∷◌}
use Rattle.std.proofs.Common.{slice_get, Option, Some, None, ap, sym, subst, ◌∙◌, refl, arith}
use Rattle.std.specs.Prelude.{count_by}
use Rattle.std.specs.Option.{is_some, is_none}
use Rattle.std.proofs.lemmas.Bool.Decides.{eqb_tells, leb_tells}
use Rattle.std.proofs.lemmas.List.Sums.{sum_by-cons}
use Rattle.op_graph.specs.declared.op.Cell.{Cell}
use Rattle.op_graph.specs.Lists.{Lists, cells}
use Rattle.weight_audit.specs.Paths.{Crosses, Reached, Step}
use Rattle.fault_cover.specs.declared.nearest.Nearest.{Nearest}
use Rattle.fault_cover.specs.Walks.{NotFurther, nearer, further, up_to, is_wanted, kept, AreFound, AreWithin, CrossesBelow, Swept, missing}
use Rattle.fault_cover.proofs.Nearing.{both_ways, no_further_same, no_further_through, nearer_first, nearer_second, nearer_either, nearer_stays}

-- ---- counts

one_at_most : (b c : Bool) → (b ≡ true → c ≡ true) → cond b 1 0 ≤ cond c 1 0
one_at_most false c h = omega arith
one_at_most true c h = subst (λ d. 1 ≤ cond d 1 0) (sym (h refl)) (let le : 1 ≤ 1 = omega arith in le)

-- a count, by its first element
first_counted : {X : Type 0} (p : X → Bool) (x : X) (xs : List X) → count_by p (x ∷ xs) ≡ cond (p x) 1 0 + count_by p xs
first_counted p x xs = sum_by-cons (λ y. cond (p y) 1 0) x xs

pub count_most : {X : Type 0} (p q : X → Bool) (xs : List X) → ((x : X) → p x ≡ true → q x ≡ true) → count_by p xs ≤ count_by q xs
count_most p q [] h = let le : 0 ≤ 0 = omega arith in le
count_most p q (x ∷ xs) h =
    let first = one_at_most (p x) (q x) (h x) in
    let more = count_most p q xs h in
    let one = first_counted p x xs in
    let other = first_counted q x xs in
    omega (arith, first, more, one, other)

pub count_less : {X : Type 0} (p q : X → Bool) (xs : List X) (i : ℕ) (y : X) → slice_get xs i ≡ Some y → p y ≡ false → q y ≡ true
    → ((x : X) → p x ≡ true → q x ≡ true) → count_by p xs < count_by q xs
count_less p q [] i y there fails passes h = absurd cc
count_less p q (x ∷ xs) zero y there fails passes h =
    let same : x ≡ y = cc in
    let none : cond {A = ℕ} (p x) 1 0 ≡ 0 = ap (λ b. cond {A = ℕ} b 1 0) (ap p same ∙ fails) in
    let one : cond {A = ℕ} (q x) 1 0 ≡ 1 = ap (λ b. cond {A = ℕ} b 1 0) (ap q same ∙ passes) in
    let more = count_most p q xs h in
    let left = first_counted p x xs in
    let right = first_counted q x xs in
    omega (arith, none, one, more, left, right)
count_less p q (x ∷ xs) (suc i) y there fails passes h =
    let first = one_at_most (p x) (q x) (h x) in
    let more = count_less p q xs i y there fails passes h in
    let left = first_counted p x xs in
    let right = first_counted q x xs in
    omega (arith, first, more, left, right)

none_counted : (b : Bool) (n : ℕ) → cond b 1 0 + n ≡ 0 → (b ≡ false) × (n ≡ 0)
none_counted false n e = (refl, omega (arith, e))
none_counted true n e = absurd (omega (arith, e))

pub count_none : {X : Type 0} (p : X → Bool) (xs : List X) (i : ℕ) (y : X) → count_by p xs ≡ 0 → slice_get xs i ≡ Some y → p y ≡ false
count_none p [] i y none there = absurd cc
count_none p (x ∷ xs) zero y none there =
    let same : x ≡ y = cc in
    ap p (sym same) ∙ (none_counted (p x) (count_by p xs) (sym (first_counted p x xs) ∙ none)).0
count_none p (x ∷ xs) (suc i) y none there = count_none p xs i y (none_counted (p x) (count_by p xs) (sym (first_counted p x xs) ∙ none)).1 there

-- ---- one cell

further_some : (x : Option Nearest) (n : Nearest) → further x 1 ≡ Some n → (m : Nearest) × (x ≡ Some m) × (record { borders = m.borders + 1; op = m.op } ≡ n)
further_some None n e = absurd cc
further_some (Some m) n e =
    let more : Nearest = record { borders = m.borders + 1; op = m.op } in
    let same : more ≡ n = cc in
    (m, refl, same)

up_to_none : (borders : ℕ) (m : Nearest) (y : Option Nearest) → NotFurther (Some m) y → ((n : Nearest) → y ≡ Some n → n.borders ≤ borders)
    → borders < m.borders → y ≡ None
up_to_none borders m None near within past = refl
up_to_none borders m (Some n) (inl lt) within past = absurd (let le = within n refl in omega (arith, lt, le, past))
up_to_none borders m (Some n) (inr e) within past = absurd (let le = within n refl in let same = e.0 in omega (arith, same, le, past))

-- what was there when the crossing began is what is there now, but for what this crossing found
up_to_is : (borders : ℕ) (x y : Option Nearest) → ((n : Nearest) → x ≡ Some n → n.borders < borders + 1 → y ≡ Some n) → NotFurther x y
    → ((n : Nearest) → y ≡ Some n → n.borders ≤ borders) → up_to borders x ≡ y
up_to_is borders None None stays near within = refl
up_to_is borders None (Some n) stays near within = absurd near
up_to_is borders (Some m) y stays near within = ⊎_elim
    (λ (h : (nat_le m.borders borders ≡ true) × (m.borders ≤ borders)).
    ap (λ b. cond b (Some m) None) h.0 ∙ sym (stays m refl (let le = h.1 in omega (arith, le))))
    (λ (h : (nat_le m.borders borders ≡ false) × (borders < m.borders)).
    ap (λ b. cond b (Some m) None) h.0 ∙ sym (up_to_none borders m y near within h.1))
    (leb_tells m.borders borders)

none_stays : (x y : Option Nearest) → NotFurther x y → is_none x ≡ true → is_none y ≡ true
none_stays None None near none = refl
none_stays None (Some n) near none = absurd near
none_stays (Some m) y near none = absurd cc

first_finds : (x y : Option Nearest) → (is_none x && is_some y) ≡ true → (is_none x ≡ true) × (is_none (nearer x (further y 1)) ≡ false)
first_finds None None first = absurd cc
first_finds None (Some n) first = (refl, refl)
first_finds (Some m) y first = absurd cc

-- a STORE from which something was found is as near as what its LOAD hands on
not_first : (borders : ℕ) (x y : Option Nearest) → (is_none x && is_some y) ≡ false → ((n : Nearest) → x ≡ Some n → n.borders ≤ borders)
    → ((n : Nearest) → y ≡ Some n → n.borders < borders → NotFurther x (further (Some n) 1)) → ((n : Nearest) → y ≡ Some n → n.borders ≤ borders)
    → NotFurther x (further y 1)
not_first borders x None fails within closed few = tt
not_first borders None (Some n) fails within closed few = absurd cc
not_first borders (Some m) (Some n) fails within closed few = ⊎_elim
    (λ (h : (nat_le borders n.borders ≡ true) × (borders ≤ n.borders)).
    inl (let le = h.1 in let low = within m refl in let e : m.borders < n.borders + 1 = omega (arith, le, low) in e))
    (λ (h : (nat_le borders n.borders ≡ false) × (n.borders < borders)). closed n refl h.1)
    (leb_tells borders n.borders)

module _ (g : Lists) (borders : ℕ) (first old new : List (Option Nearest)) (c : Cell) (i : ℕ) (there : slice_get (cells g) i ≡ Some c)
    (within : AreWithin borders first) (closed : CrossesBelow g borders first) (swept : Swept (borders + 1) first old)
    (here : kept new c.store ≡ nearer (kept old c.store) (further (up_to borders (kept old c.load)) 1))
    (other : (k : ℕ) → k ≢ c.store → kept new k ≡ kept old k) where
  crosses : Crosses (cells g) c.store c.load
  crosses = record { number = i; cell = c; there = there; store = refl; load = refl }

  load_is : up_to borders (kept old c.load) ≡ kept first c.load
  load_is = up_to_is borders (kept old c.load) (kept first c.load) (λ n e lt. swept.stays c.load n e lt) (swept.no_further c.load) (λ n e. within c.load n e)

  here_is : kept new c.store ≡ nearer (kept old c.store) (further (kept first c.load) 1)
  here_is = here ∙ ap (λ x. nearer (kept old c.store) (further x 1)) load_is

  step_no_further : (k : ℕ) → NotFurther (kept new k) (kept old k)
  step_no_further k = ⊎_elim
      (λ (h : ((k == c.store) ≡ true) × (k ≡ c.store)).
      subst (λ m. NotFurther (kept new m) (kept old m)) (sym h.1)
      (subst (λ x. NotFurther x (kept old c.store)) (sym here_is) (nearer_first (kept old c.store) (further (kept first c.load) 1))))
      (λ (h : ((k == c.store) ≡ false) × (k ≢ c.store)). subst (λ x. NotFurther x (kept old k)) (sym (other k h.1)) (no_further_same (kept old k)))
      (eqb_tells k c.store)

  -- what is there was there, or is handed on
  handed : (k : ℕ) (n : Nearest) → kept new k ≡ Some n → (kept old k ≡ Some n) ⊎ ((k ≡ c.store) × (further (kept first c.load) 1 ≡ Some n))
  handed k n e = ⊎_elim
      (λ (h : ((k == c.store) ≡ true) × (k ≡ c.store)).
      let e' : kept new c.store ≡ Some n = subst (λ m. kept new m ≡ Some n) h.1 e in
      ⊎_elim
      (λ (f : nearer (kept old c.store) (further (kept first c.load) 1) ≡ kept old c.store).
      inl (subst (λ m. kept old m ≡ Some n) (sym h.1) (sym f ∙ sym here_is ∙ e')))
      (λ (f : nearer (kept old c.store) (further (kept first c.load) 1) ≡ further (kept first c.load) 1). inr (h.1, sym f ∙ sym here_is ∙ e'))
      (nearer_either (kept old c.store) (further (kept first c.load) 1)))
      (λ (h : ((k == c.store) ≡ false) × (k ≢ c.store)). inl (sym (other k h.1) ∙ e))
      (eqb_tells k c.store)

  back : (k : ℕ) → NotFurther (kept new k) (kept first k)
  back k = no_further_through (kept new k) (kept old k) (kept first k) (step_no_further k) (swept.no_further k)

  pub crossed_swept : Swept (borders + 1) first new
  crossed_swept = record {
    stays = λ k n e lt. ⊎_elim
        (λ (h : kept old k ≡ Some n). swept.stays k n h lt)
        (λ (h : (k ≡ c.store) × (further (kept first c.load) 1 ≡ Some n)).
        let m = further_some (kept first c.load) n h.1 in
        let same : m.0.borders + 1 ≡ n.borders = ap (λ (x : Nearest). x.borders) m.2 in
        let near : NotFurther (kept first c.store) (Some n) = subst (NotFurther (kept first c.store)) (ap Some m.2)
        (closed c.store c.load m.0 crosses m.1 (omega (arith, same, lt))) in
        both_ways (kept first k) n (subst (λ x. NotFurther (kept first x) (Some n)) (sym h.0) near) (subst (λ x. NotFurther x (kept first k)) e (back k)))
        (handed k n e);
    no_further = back;
  }

  pub crossed_found : (wanted : List Bool) → AreFound g wanted first → AreFound g wanted old → AreFound g wanted new
  crossed_found wanted at_first are k n e = ⊎_elim
      (λ (h : kept old k ≡ Some n). are k n h)
      (λ (h : (k ≡ c.store) × (further (kept first c.load) 1 ≡ Some n)).
      let m = further_some (kept first c.load) n h.1 in
      let from = at_first c.load m.0 m.1 in
      let border : suc m.0.borders ≡ m.0.borders + 1 = omega arith in
      let path : Reached g m.0.op (m.0.borders + 1) c.store = subst (λ b. Reached g m.0.op b c.store) border
      (Step.Cross c.load ∷ from.1.0, (crosses, from.1.1)) in
      subst (λ (x : Nearest). (is_wanted wanted x.op ≡ true) × Reached g x.op x.borders k) m.2
      (from.0, subst (Reached g m.0.op (m.0.borders + 1)) (sym h.0) path))
      (handed k n e)

  pub crossed_within : AreWithin (borders + 1) old → AreWithin (borders + 1) new
  crossed_within are k n e = ⊎_elim
      (λ (h : kept old k ≡ Some n). are k n h)
      (λ (h : (k ≡ c.store) × (further (kept first c.load) 1 ≡ Some n)).
      let m = further_some (kept first c.load) n h.1 in
      let same : m.0.borders + 1 ≡ n.borders = ap (λ (x : Nearest). x.borders) m.2 in
      let low = within c.load m.0 m.1 in
      omega (arith, same, low))
      (handed k n e)

  pub crossed_done : ((j : ℕ) (d : Cell) → j < i → slice_get (cells g) j ≡ Some d → NotFurther (kept old d.store) (further (kept first d.load) 1))
      → (j : ℕ) (d : Cell) → j < i + 1 → slice_get (cells g) j ≡ Some d → NotFurther (kept new d.store) (further (kept first d.load) 1)
  crossed_done done j d lt that = ⊎_elim
      (λ (h : ((j == i) ≡ true) × (j ≡ i)).
      let same : c ≡ d = one_cell (sym there ∙ subst (λ x. slice_get (cells g) x ≡ Some d) h.1 that) in
      subst (λ (x : Cell). NotFurther (kept new x.store) (further (kept first x.load) 1)) same
      (subst (λ x. NotFurther x (further (kept first c.load) 1)) (sym here_is) (nearer_second (kept old c.store) (further (kept first c.load) 1))))
      (λ (h : ((j == i) ≡ false) × (j ≢ i)).
      no_further_through (kept new d.store) (kept old d.store) (further (kept first d.load) 1) (step_no_further d.store)
      (done j d (let ne = h.1 in omega (arith, lt, ne)) that))
      (eqb_tells j i)
    where
      one_cell : {a b : Cell} → Some a ≡ Some b → a ≡ b
      one_cell e = cc

  pub crossed_none : ((k : ℕ) → kept old k ≡ kept first k) → (is_none (kept old c.store) && is_some (up_to borders (kept old c.load))) ≡ false
      → (k : ℕ) → kept new k ≡ kept first k
  crossed_none same fails k = ⊎_elim
      (λ (h : ((k == c.store) ≡ true) × (k ≡ c.store)).
      subst (λ m. kept new m ≡ kept first m) (sym h.1) (here_is ∙ nearer_stays (kept old c.store) (further (kept first c.load) 1)
      (subst (λ x. NotFurther x (further (kept first c.load) 1)) (sym (same c.store))
      (not_first borders (kept first c.store) (kept first c.load) at_first (λ n e. within c.store n e)
      (λ n e lt. closed c.store c.load n crosses e lt) (λ n e. within c.load n e))) ∙ same c.store))
      (λ (h : ((k == c.store) ≡ false) × (k ≢ c.store)). other k h.1 ∙ same k)
      (eqb_tells k c.store)
    where
      at_first : (is_none (kept first c.store) && is_some (kept first c.load)) ≡ false
      at_first = ap (λ x. is_none x && is_some (kept first c.load)) (sym (same c.store)) ∙ ap (λ y. is_none (kept old c.store) && is_some y) (sym load_is)
          ∙ fails

  pub crossed_most : missing g new ≤ missing g old
  crossed_most = count_most (λ (d : Cell). is_none (kept new d.store)) (λ d. is_none (kept old d.store)) (cells g)
      (λ d. none_stays (kept new d.store) (kept old d.store) (step_no_further d.store))

  pub crossed_less : (is_none (kept old c.store) && is_some (up_to borders (kept old c.load))) ≡ true → missing g new < missing g old
  crossed_less passes =
      let finds = first_finds (kept old c.store) (up_to borders (kept old c.load)) passes in
      count_less (λ (d : Cell). is_none (kept new d.store)) (λ d. is_none (kept old d.store)) (cells g) i c there (ap is_none here ∙ finds.1) finds.0
      (λ d. none_stays (kept new d.store) (kept old d.store) (step_no_further d.store))

-- all cells are done
pub all_done : (g : Lists) (borders : ℕ) (first new : List (Option Nearest)) → Swept (borders + 1) first new
    → ((j : ℕ) (d : Cell) → slice_get (cells g) j ≡ Some d → NotFurther (kept new d.store) (further (kept first d.load) 1)) → CrossesBelow g (borders + 1) new
all_done g borders first new swept done k l n crosses e lt =
    subst (λ x. NotFurther (kept new k) (further x 1)) (swept.stays l n e lt)
    (subst (λ m. NotFurther (kept new k) (further (kept first m) 1)) crosses.load
    (subst (λ m. NotFurther (kept new m) (further (kept first crosses.cell.load) 1)) crosses.store (done crosses.number crosses.cell crosses.there)))
