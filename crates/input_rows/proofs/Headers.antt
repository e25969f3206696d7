-- Steps of reading a header.
use Rattle.std.proofs.Common.{◌≡◌, ◌≢◌, ◌<◌, ◌≤◌, ◌⊎◌, ◌==◌, inl, inr, cond, ℕ, ◌+◌, zero, suc, Bool, true, false, ◌&&◌, List, [], ◌∷◌, ◌++◌, length, drop, slice_get, get_or, slice_set}
use Rattle.std.proofs.Common.{replicate, Option, Some, None, option_map, refl, ap, sym, ◌∙◌, arith, add-one, append_assoc}
use Rattle.std.proofs.lemmas.Bool.{eq-eqb}
use Rattle.std.proofs.lemmas.Bool.Decides.{eqb_tells}
use Rattle.std.proofs.lemmas.List.{append-nil, drop_all}
use Rattle.vcp_base.specs.declared.columns.Column.{Column}
use Rattle.vcp_base.specs.Names.{is_same_name}
use Rattle.input_rows.specs.Cells.{trimmed}
use Rattle.input_rows.specs.Header.{place_of, places_of, places_after, order_of}

-- a place found among the columns from i on, as a place among all
abbrev pub from_place : ℕ → Option ℕ → Option ℕ
from_place i o = option_map (λ p. p + i) o

-- places before those that are still to be found
abbrev pub before_places : List ℕ → Option (List ℕ) → Option (List ℕ)
before_places ps o = option_map (λ qs. ps ++ qs) o

from-next : (i : ℕ) (o : Option ℕ) → from_place i (option_map (λ p. p + 1) o) ≡ from_place (i + 1) o
from-next i None = refl
from-next i (Some p) = ap Some (omega arith)

before-next : (ps : List ℕ) (p : ℕ) (o : Option (List ℕ)) → before_places ps (option_map (λ qs. p ∷ qs) o) ≡ before_places (ps ++ p ∷ []) o
before-next ps p None = refl
before-next ps p (Some qs) = ap Some (sym (append_assoc ps (p ∷ []) qs))

-- the column at i isn't the one
place-next : (columns : List Column) (free : List Bool) (name : List ℕ) (i : ℕ) (c : Column) → slice_get columns i ≡ Some c → i < length free
    → (get_or free i false && is_same_name c.name name) ≡ false
    → place_of (drop i columns) (drop i free) name ≡ option_map (λ p. p + 1) (place_of (drop (suc i) columns) (drop (suc i) free) name)
place-next [] free name i c e l f = absurd cc
place-next (d ∷ columns) [] name i c e l f = absurd (omega arith)
place-next (d ∷ columns) (b ∷ free) name zero c e l f =
    let same : d ≡ c = cc in
    let test : (b && is_same_name d.name name) ≡ false = rw same f in
    rw test refl
place-next (d ∷ columns) (b ∷ free) name (suc i) c e l f = place-next columns free name i c e (omega arith) f

-- the column at i is the one
place-here : (columns : List Column) (free : List Bool) (name : List ℕ) (i : ℕ) (c : Column) → slice_get columns i ≡ Some c → i < length free
    → (get_or free i false && is_same_name c.name name) ≡ true
    → place_of (drop i columns) (drop i free) name ≡ Some 0
place-here [] free name i c e l f = absurd cc
place-here (d ∷ columns) [] name i c e l f = absurd (omega arith)
place-here (d ∷ columns) (b ∷ free) name zero c e l f =
    let same : d ≡ c = cc in
    let test : (b && is_same_name d.name name) ≡ true = rw same f in
    rw test refl
place-here (d ∷ columns) (b ∷ free) name (suc i) c e l f = place-here columns free name i c e (omega arith) f

pub goes_on : (columns : List Column) (free : List Bool) (name : List ℕ) (i : ℕ) (c : Column) (o : Option ℕ)
    → o ≡ from_place i (place_of (drop i columns) (drop i free) name) → slice_get columns i ≡ Some c → i < length free
    → (get_or free i false && is_same_name c.name name) ≡ false
    → o ≡ from_place (i + 1) (place_of (drop (i + 1) columns) (drop (i + 1) free) name)
goes_on columns free name i c o h e l f =
    let k : o ≡ from_place (i + 1) (place_of (drop (suc i) columns) (drop (suc i) free) name) =
    h ∙ ap (from_place i) (place-next columns free name i c e l f) ∙ from-next i (place_of (drop (suc i) columns) (drop (suc i) free) name) in
    simp add-one (simp add-one at k)

pub found_here : (columns : List Column) (free : List Bool) (name : List ℕ) (i : ℕ) (c : Column) (o : Option ℕ)
    → o ≡ from_place i (place_of (drop i columns) (drop i free) name) → slice_get columns i ≡ Some c → i < length free
    → (get_or free i false && is_same_name c.name name) ≡ true
    → o ≡ Some i
found_here columns free name i c o h e l f = h ∙ ap (from_place i) (place-here columns free name i c e l f) ∙ ap Some (omega arith)

places-next : (columns : List Column) (free : List Bool) (fields : List (List ℕ)) (j : ℕ) (f : List ℕ) → slice_get fields j ≡ Some f
    → places_of columns free (drop j fields)
    ≡ places_after (place_of columns free (trimmed f)) (λ i. places_of columns (slice_set free i false) (drop (suc j) fields))
places-next columns free [] j f e = absurd cc
places-next columns free (g ∷ fields) zero f e =
    let same : g ≡ f = cc in
    rw same refl
places-next columns free (g ∷ fields) (suc j) f e = places-next columns free fields j f e

-- a field whose column isn't there
pub no_place : (columns : List Column) (free : List Bool) (fields : List (List ℕ)) (ps : List ℕ) (j : ℕ) (f : List ℕ) (o : Option (List ℕ))
    → o ≡ before_places ps (places_of columns free (drop j fields))
    → slice_get fields j ≡ Some f → place_of columns free (trimmed f) ≡ None → o ≡ None
no_place columns free fields ps j f o h e n = h
    ∙ ap (before_places ps)
    (places-next columns free fields j f e ∙ ap (λ p. places_after p (λ i. places_of columns (slice_set free i false) (drop (suc j) fields))) n)

-- a field whose column is at p
pub one_place : (columns : List Column) (free : List Bool) (fields : List (List ℕ)) (ps : List ℕ) (j p : ℕ) (f : List ℕ) (o : Option (List ℕ))
    → o ≡ before_places ps (places_of columns free (drop j fields))
    → slice_get fields j ≡ Some f → place_of columns free (trimmed f) ≡ Some p
    → o ≡ before_places (ps ++ p ∷ []) (places_of columns (slice_set free p false) (drop (j + 1) fields))
one_place columns free fields ps j p f o h e n =
    let k : o ≡ before_places (ps ++ p ∷ []) (places_of columns (slice_set free p false) (drop (suc j) fields)) =
    h ∙ ap (before_places ps)
    (places-next columns free fields j f e ∙ ap (λ p. places_after p (λ i. places_of columns (slice_set free i false) (drop (suc j) fields))) n)
    ∙ before-next ps p (places_of columns (slice_set free p false) (drop (suc j) fields)) in
    simp add-one k

-- the order of a header of the right length
pub order-here : (columns : List Column) (header : List (List ℕ)) → length header ≡ length columns
    → order_of columns header ≡ places_of columns (replicate (length columns) true) header
order-here columns header e = rw (eq-eqb (length header) (length columns) e) refl

-- a header of another length has no order
is_other : (a b : ℕ) → a ≢ b → (a == b) ≡ false
is_other a b other = of (eqb_tells a b) where
  of : ((a == b) ≡ true) × (a ≡ b) ⊎ ((a == b) ≡ false) × (a ≢ b) → (a == b) ≡ false
  of (inl same) = absurd (other same.1)
  of (inr differ) = differ.0

pub other_length : (columns : List Column) (header : List (List ℕ)) {m n : ℕ} → m ≡ length header → n ≡ length columns → m ≢ n → None ≡ order_of columns header
other_length columns header fields all other =
    sym (ap (λ b. cond b (places_of columns (replicate (length columns) true) header) None)
    (is_other (length header) (length columns) (λ same. other (fields ∙ same ∙ sym all))))

-- the order of a header whose fields all have a place
pub order_found : (columns : List Column) (header : List (List ℕ)) (free : List Bool) (places : List ℕ) (j : ℕ) {m n : ℕ}
    → m ≡ length header → n ≡ length columns → m ≡ n → length header ≤ j
    → places_of columns (replicate (length columns) true) header ≡ before_places places (places_of columns free (drop j header))
    → Some places ≡ order_of columns header
order_found columns header free places j fields all same ends so_far =
    sym (order-here columns header (sym fields ∙ same ∙ all) ∙ so_far
    ∙ ap (λ rest. before_places places (places_of columns free rest)) (drop_all j header ends) ∙ ap Some (append-nil places))
