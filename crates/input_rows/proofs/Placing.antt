-- Rows whose values are set at their places.
use Rattle.std.proofs.Common.{◌≡◌, ◌≢◌, ◌⊎◌, inl, inr, ◌<◌, ℕ, ◌+◌, zero, suc, true, false, eqb, List, [], ◌∷◌, length, map, drop, get_or, slice_get}
use Rattle.std.proofs.Common.{slice_index_or, slice_set, replicate, length-set, Contains, Option, Some, None, Result, Ok, Err, ℤ, pos, refl, ap, sym, ◌∙◌}
use Rattle.std.proofs.Common.{arith, add-one}
use Rattle.std.proofs.lemmas.Bool.{eq-eqb}
use Rattle.std.proofs.lemmas.Bool.Decides.{eqb_tells}
use Rattle.std.proofs.lemmas.List.{get_or-set_other, get_or-set_same, same_lists, length-replicate, length-map}
use Rattle.vcp_base.specs.declared.ty.Ty.{Ty}
use Rattle.input_rows.specs.declared.fault.RowFault.{RowFault}
use Rattle.input_rows.specs.declared.fault.RowFault.TheVariants as fault
use Rattle.input_rows.specs.Cells.{value_of}
use Rattle.input_rows.specs.Header.{IsOrder}
use Rattle.input_rows.specs.TableLeft.{Ordered}
use Rattle.vcp_base.specs.declared.columns.Column.{Column}
use Rattle.input_rows.specs.RowsOf.{type_at, types_of, row_of, values_of, values_after, placed, row_onto}

-- rows that agree where no value is set are one, once the values are set
same-placed : (ps : List ℕ) (vs a b : List ℤ) → length vs ≡ length ps → length a ≡ length b
    → ((k : ℕ) (d : ℤ) → k < length a → ¬ Contains ps k → get_or a k d ≡ get_or b k d) → placed ps vs a ≡ placed ps vs b
same-placed [] vs a b e l same = same_lists a b l (λ k d h. same k d h (λ w. absurd (omega (arith, w.1))))
same-placed (p ∷ ps) [] a b e l same = absurd (omega arith)
same-placed (p ∷ ps) (v ∷ vs) a b e l same =
    same-placed ps vs (slice_set a p v) (slice_set b p v) (omega arith) (length-set a p v ∙ l ∙ sym (length-set b p v))
    (λ k d h n. by_case k d (omega (arith, length-set a p v)) n (eqb_tells k p))
  where
    by_case : (k : ℕ) (d : ℤ) → k < length a → ¬ Contains ps k → ((eqb k p ≡ true) × (k ≡ p)) ⊎ ((eqb k p ≡ false) × (k ≢ p))
        → get_or (slice_set a p v) k d ≡ get_or (slice_set b p v) k d
    by_case k d h n (inl q) = rw q.1 (get_or-set_same a p v d (omega (arith, q.1)) ∙ sym (get_or-set_same b p v d (omega (arith, q.1))))
    by_case k d h n (inr q) = get_or-set_other a p k v d q.1 ∙ same k d h (λ w. other w) ∙ sym (get_or-set_other b p k v d q.1)
      where
        other : Contains (p ∷ ps) k → ⊥
        other w = by_place w.0 w.1 w.2
          where
            by_place : (i : ℕ) → i < length (p ∷ ps) → slice_index_or (p ∷ ps) i k ≡ k → ⊥
            by_place zero l e = q.1 (sym e)
            by_place (suc i) l e = n (i, omega arith, e)

-- an order leaves nothing of the row that it is applied to
pub placed-anywhere : (n : ℕ) (ps : List ℕ) (vs a b : List ℤ) → IsOrder n ps → length vs ≡ length ps → length a ≡ n → length b ≡ n
    → placed ps vs a ≡ placed ps vs b
placed-anywhere n ps vs a b order e la lb = same-placed ps vs a b e (la ∙ sym lb) (λ k d h miss. absurd (miss (order.each k (omega arith))))

drop-get : {X : Type 0} (xs : List X) (i : ℕ) (x : X) → slice_get xs i ≡ Some x → drop i xs ≡ x ∷ drop (suc i) xs
drop-get [] i x e = absurd cc
drop-get (y ∷ xs) zero x e = let k : y ≡ x = cc in ap (λ z. z ∷ xs) k
drop-get (y ∷ xs) (suc i) x e = drop-get xs i x e

-- the type of a column at its place
pub type-there : (columns : List Column) (i : ℕ) (c : Column) → slice_get columns i ≡ Some c → type_at (types_of columns) i ≡ c.ty
type-there [] i c e = absurd cc
type-there (d ∷ columns) zero c e = let k : d ≡ c = cc in ap (λ x. x.ty) k
type-there (d ∷ columns) (suc i) c e = type-there columns i c e

-- what is expected of the cells from j on, over a row that has the values of those before
abbrev pub expected : List Ty → List ℕ → List (List ℕ) → ℕ → ℕ → List ℤ → Result (List ℤ) RowFault
expected types places cells number j row = row_onto row (drop j places) number (values_of (j + 1) (map (type_at types) (drop j places)) (drop j cells))

onto-some : (row : List ℤ) (p : ℕ) (ps : List ℕ) (number column : ℕ) (v : ℤ) (r : Result (List ℤ) ℕ)
    → row_onto row (p ∷ ps) number (values_after column (Some v) r) ≡ row_onto (slice_set row p v) ps number r
onto-some row p ps number column v (Ok vs) = refl
onto-some row p ps number column v (Err k) = refl

expected-here : (types : List Ty) (places : List ℕ) (cells : List (List ℕ)) (number j : ℕ) (row : List ℤ) (p : ℕ) (cell : List ℕ) → slice_get places j ≡ Some p
    → slice_get cells j ≡ Some cell
    → expected types places cells number j row
    ≡ row_onto row (p ∷ drop (suc j) places) number
    (values_after (j + 1) (value_of (type_at types p) cell) (values_of (j + 1 + 1) (map (type_at types) (drop (suc j) places)) (drop (suc j) cells)))
expected-here types places cells number j row p cell ep ec = rw (drop-get places j p ep, drop-get cells j cell ec) refl

-- a cell that spells a value
pub cell_set : (types : List Ty) (places : List ℕ) (cells : List (List ℕ)) (number j : ℕ) (row : List ℤ) (p : ℕ) (cell : List ℕ) (v : ℤ)
    → slice_get places j ≡ Some p → slice_get cells j ≡ Some cell → value_of (type_at types p) cell ≡ Some v
    → expected types places cells number j row ≡ expected types places cells number (j + 1) (slice_set row p v)
cell_set types places cells number j row p cell v ep ec ev =
    let k : expected types places cells number j row ≡ row_onto (slice_set row p v) (drop (suc j) places) number
    (values_of (j + 1 + 1) (map (type_at types) (drop (suc j) places)) (drop (suc j) cells)) =
    expected-here types places cells number j row p cell ep ec
    ∙ ap (λ o. row_onto row (p ∷ drop (suc j) places) number
    (values_after (j + 1) o (values_of (j + 1 + 1) (map (type_at types) (drop (suc j) places)) (drop (suc j) cells)))) ev
    ∙ onto-some row p (drop (suc j) places) number (j + 1) v (values_of (j + 1 + 1) (map (type_at types) (drop (suc j) places)) (drop (suc j) cells)) in
    simp add-one (simp add-one at k)

-- a cell that spells none
pub cell_refused : (types : List Ty) (places : List ℕ) (cells : List (List ℕ)) (number j : ℕ) (row : List ℤ) (p : ℕ) (cell : List ℕ)
    → slice_get places j ≡ Some p → slice_get cells j ≡ Some cell → value_of (type_at types p) cell ≡ None
    → expected types places cells number j row ≡ Err (fault.Cell number (j + 1))
cell_refused types places cells number j row p cell ep ec ev =
    expected-here types places cells number j row p cell ep ec
    ∙ ap (λ o. row_onto row (p ∷ drop (suc j) places) number
    (values_after (j + 1) o (values_of (j + 1 + 1) (map (type_at types) (drop (suc j) places)) (drop (suc j) cells)))) ev

-- as many values as types
length-values : (column : ℕ) (types : List Ty) (cells : List (List ℕ)) (vs : List ℤ) → length types ≡ length cells → values_of column types cells ≡ Ok vs
    → length vs ≡ length types
length-values column [] cells vs l e = let k : [] ≡ vs = cc in ap length (sym k)
length-values column (t ∷ types) [] vs l e = absurd (omega arith)
length-values column (t ∷ types) (cell ∷ cells) vs l e =
    by_case (length-values (column + 1) types cells) (value_of t cell) (values_of (column + 1) types cells) refl e
  where
    by_case : ((ws : List ℤ) → length types ≡ length cells → values_of (column + 1) types cells ≡ Ok ws → length ws ≡ length types)
        → (o : Option ℤ) (r : Result (List ℤ) ℕ) → values_of (column + 1) types cells ≡ r → values_after column o r ≡ Ok vs → length vs ≡ suc (length types)
    by_case ih None r h e2 = absurd cc
    by_case ih (Some v) (Err k) h e2 = absurd cc
    by_case ih (Some v) (Ok ws) h e2 = let k : v ∷ ws ≡ vs = cc in rw (← k) (ap suc (ih ws (omega arith) h))

-- the row of a record of the right width, over any row
pub row-over : (n : ℕ) (types : List Ty) (order : List ℕ) (number : ℕ) (cells : List (List ℕ)) (row : List ℤ) → IsOrder n order → n ≡ length types
    → length cells ≡ length order → length row ≡ length types
    → row_of types order number cells ≡ row_onto row order number (values_of 1 (map (type_at types) order) cells)
row-over n types order number cells row is e w l =
    rw (eq-eqb (length cells) (length types) (w ∙ is.as_many ∙ e)) (by_values (values_of 1 (map (type_at types) order) cells) refl)
  where
    by_values : (r : Result (List ℤ) ℕ) → values_of 1 (map (type_at types) order) cells ≡ r
        → row_onto (replicate (length types) (pos 0)) order number r ≡ row_onto row order number r
    by_values (Ok vs) h =
        ap Ok (placed-anywhere n order vs (replicate (length types) (pos 0)) row is
        (length-values 1 (map (type_at types) order) cells vs (length-map order (type_at types) ∙ sym w) h ∙ length-map order (type_at types))
        (length-replicate (length types) (pos 0) ∙ sym e) (l ∙ sym e))
    by_values (Err k) h = refl

-- the order of a layout, as its value tells it
pub order-seen : (columns : List Column) (places : List ℕ) (o : Ordered) → record { types = types_of columns; places = places } ≡ o
    → IsOrder (length columns) places → IsOrder (length o.types) o.places
order-seen columns places o e h = rw (← e) (rw (length-map columns (λ c. c.ty)) h)
