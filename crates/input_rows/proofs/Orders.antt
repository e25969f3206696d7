-- The order that a header gives has each place once.
use Rattle.std.proofs.Common.{◌≡◌, ◌≢◌, ◌⊎◌, inl, inr, ◌<◌, ◌≤◌, ℕ, ◌+◌, zero, suc, Bool, true, false, ◌&&◌, eqb, cond, List, [], ◌∷◌, length, get_or}
use Rattle.std.proofs.Common.{slice_set, replicate, All, Contains, Option, Some, None, option_map, refl, ap, sym, ◌∙◌, arith}
use Rattle.std.proofs.lemmas.Bool.Decides.{eqb_tells}
use Rattle.std.proofs.lemmas.List.{get_or-set_other, get_or-replicate}
use Rattle.vcp_base.specs.declared.columns.Column.{Column}
use Rattle.vcp_base.specs.Names.{is_same_name}
use Rattle.input_rows.specs.Cells.{trimmed}
use Rattle.input_rows.specs.Header.{place_of, places_of, places_after, order_of, IsOrder}

-- how many columns are free
abbrev trues : List Bool → ℕ
trues [] = 0
trues (true ∷ free) = suc (trues free)
trues (false ∷ free) = trues free

trues-replicate : (n : ℕ) → trues (replicate n true) ≡ n
trues-replicate zero = refl
trues-replicate (suc n) = ap suc (trues-replicate n)

some-true : (free : List Bool) (k : ℕ) → get_or free k false ≡ true → 0 < trues free
some-true [] k e = absurd cc
some-true (true ∷ free) k e = omega arith
some-true (false ∷ free) zero e = absurd cc
some-true (false ∷ free) (suc k) e = some-true free k e

trues-set : (free : List Bool) (k : ℕ) → get_or free k false ≡ true → suc (trues (slice_set free k false)) ≡ trues free
trues-set [] k e = absurd cc
trues-set (true ∷ free) zero e = refl
trues-set (false ∷ free) zero e = absurd cc
trues-set (true ∷ free) (suc k) e = ap suc (trues-set free k e)
trues-set (false ∷ free) (suc k) e = trues-set free k e

by_test : (t : Bool) (o : Option ℕ) (p : ℕ) → cond t (Some 0) (option_map (λ i. i + 1) o) ≡ Some p
    → ((t ≡ true) × (p ≡ 0)) ⊎ ((q : ℕ) × (o ≡ Some q) × (p ≡ suc q))
by_test true o p e = let k : 0 ≡ p = cc in inl (refl, sym k)
by_test false None p e = absurd cc
by_test false (Some q) p e = let k : q + 1 ≡ p = cc in inr (q, refl, omega arith)

first : (a b : Bool) → (a && b) ≡ true → a ≡ true
first true b e = refl
first false b e = absurd cc

-- the place that is found is a free column's
place-free : (columns : List Column) (free : List Bool) (name : List ℕ) (p : ℕ) → place_of columns free name ≡ Some p
    → (get_or free p false ≡ true) × (p < length columns)
place-free [] free name p e = absurd cc
place-free (c ∷ columns) [] name p e = absurd cc
place-free (c ∷ columns) (f ∷ free) name p e = by_case (place-free columns free name) (by_test (f && is_same_name c.name name) (place_of columns free name) p e)
  where
    by_case : ((q : ℕ) → place_of columns free name ≡ Some q → (get_or free q false ≡ true) × (q < length columns))
        → (((f && is_same_name c.name name) ≡ true) × (p ≡ 0)) ⊎ ((q : ℕ) × (place_of columns free name ≡ Some q) × (p ≡ suc q))
        → (get_or (f ∷ free) p false ≡ true) × (p < length (c ∷ columns))
    by_case ih (inl h) = rw h.1 (first f (is_same_name c.name name) h.0, omega arith)
    by_case ih (inr h) = let k = ih h.0 h.1 in rw h.2 (k.0, omega arith)

-- what a list of places begins with
split : (o : Option ℕ) (more : ℕ → Option (List ℕ)) (ps : List ℕ) → places_after o more ≡ Some ps
    → (p : ℕ) × (qs : List ℕ) × (o ≡ Some p) × (more p ≡ Some qs) × (ps ≡ p ∷ qs)
split None more ps e = absurd cc
split (Some p) more ps e = by_more (more p) refl e
  where
    by_more : (m : Option (List ℕ)) → more p ≡ m → option_map (λ places. p ∷ places) m ≡ Some ps
        → (q : ℕ) × (qs : List ℕ) × (Some p ≡ Some q) × (more q ≡ Some qs) × (ps ≡ q ∷ qs)
    by_more None h e = absurd cc
    by_more (Some qs) h e = let k : p ∷ qs ≡ ps = cc in (p, qs, refl, h, sym k)

length-places : (columns : List Column) (free : List Bool) (fields : List (List ℕ)) (ps : List ℕ) → places_of columns free fields ≡ Some ps
    → length ps ≡ length fields
length-places columns free [] ps e = let k : [] ≡ ps = cc in ap length (sym k)
length-places columns free (f ∷ fields) ps e =
    let s = split (place_of columns free (trimmed f)) (λ i. places_of columns (slice_set free i false) fields) ps e in
    rw s.4 (ap suc (length-places columns (slice_set free s.0 false) fields s.1 s.3))

within-cons : (n p : ℕ) (ps : List ℕ) → p < n → All (λ i. i < n) ps → All (λ i. i < n) (p ∷ ps)
within-cons n p ps h all zero d l = h
within-cons n p ps h all (suc k) d l = all k d (omega arith)

within-places : (columns : List Column) (free : List Bool) (fields : List (List ℕ)) (ps : List ℕ) → places_of columns free fields ≡ Some ps
    → All (λ i. i < length columns) ps
within-places columns free [] ps e = let k : [] ≡ ps = cc in rw (← k) (λ j d l. absurd (omega arith))
within-places columns free (f ∷ fields) ps e =
    let s = split (place_of columns free (trimmed f)) (λ i. places_of columns (slice_set free i false) fields) ps e in
    let here = place-free columns free (trimmed f) s.0 s.2 in
    rw s.4 (within-cons (length columns) s.0 s.1 here.1 (within-places columns (slice_set free s.0 false) fields s.1 s.3))

contains-head : (k p : ℕ) (ps : List ℕ) → k ≡ p → Contains (p ∷ ps) k
contains-head k p ps e = (0, omega arith, sym e)

contains-tail : (k p : ℕ) (ps : List ℕ) → Contains ps k → Contains (p ∷ ps) k
contains-tail k p ps h = (suc h.0, omega (arith, h.1), h.2)

-- where there are no more free columns than fields, each free column is taken
taken : (columns : List Column) (free : List Bool) (fields : List (List ℕ)) (ps : List ℕ) → places_of columns free fields ≡ Some ps → trues free ≤ length fields
    → (k : ℕ) → get_or free k false ≡ true → Contains ps k
taken columns free [] ps e few k t = let h = some-true free k t in absurd (omega arith)
taken columns free (f ∷ fields) ps e few k t =
    let s = split (place_of columns free (trimmed f)) (λ i. places_of columns (slice_set free i false) fields) ps e in
    let here = place-free columns free (trimmed f) s.0 s.2 in
    rw s.4 (by_case (λ free2 qs m le t2. taken columns free2 fields qs m le k t2) s.0 s.1 (trues-set free s.0 here.0) s.3 (eqb_tells k s.0))
  where
    by_case : ((free2 : List Bool) (qs : List ℕ) → places_of columns free2 fields ≡ Some qs → trues free2 ≤ length fields → get_or free2 k false ≡ true → Contains qs k) → (p : ℕ) (qs : List ℕ) → suc (trues (slice_set free p false)) ≡ trues free → places_of columns (slice_set free p false) fields ≡ Some qs → ((eqb k p ≡ true) × (k ≡ p)) ⊎ ((eqb k p ≡ false) × (k ≢ p)) → Contains (p ∷ qs) k
    by_case ih p qs less more (inl h) = contains-head k p qs h.1
    by_case ih p qs less more (inr h) =
        contains-tail k p qs (ih (slice_set free p false) qs more (omega arith) (get_or-set_other free p k false false h.1 ∙ t))

by_length : (columns : List Column) (header : List (List ℕ)) (ps : List ℕ) → order_of columns header ≡ Some ps
    → ((eqb (length header) (length columns) ≡ true) × (length header ≡ length columns))
    ⊎ ((eqb (length header) (length columns) ≡ false) × (length header ≢ length columns)) → IsOrder (length columns) ps
by_length columns header ps e (inr h) = let none : order_of columns header ≡ None = rw h.0 refl in absurd cc
by_length columns header ps e (inl h) =
    let places : places_of columns (replicate (length columns) true) header ≡ Some ps = rw h.0 at e in
    record {
      as_many = length-places columns (replicate (length columns) true) header ps places ∙ h.1;
      within = within-places columns (replicate (length columns) true) header ps places;
      each = λ i l. taken columns (replicate (length columns) true) header ps places (omega (arith, trues-replicate (length columns))) i
          (get_or-replicate (length columns) i true false l);
    }

pub order-each : (columns : List Column) (header : List (List ℕ)) (ps : List ℕ) → order_of columns header ≡ Some ps → IsOrder (length columns) ps
order-each columns header ps e = by_length columns header ps e (eqb_tells (length header) (length columns))
