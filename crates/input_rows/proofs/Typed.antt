-- Each value of a row is one of its type.
use Rattle.std.proofs.Common.{◌≡◌, ℕ, ◌+◌, zero, suc, Bool, true, false, ◌==◌, nat_lt, cond, List, [], ◌∷◌, length, map, slice_set, replicate, All, Option}
use Rattle.std.proofs.Common.{Some, None, option_and_then, Result, Ok, Err, IfOk, ℤ, pos, refl, codes, ◌||◌}
use Rattle.std.proofs.lemmas.List.Elements.{All-nil, All-cons}
use Rattle.vcp_base.specs.Limits.{most_cycles}
use Rattle.vcp_base.specs.declared.ty.Ty.{Ty}
use Rattle.vcp_base.specs.declared.ty.Ty.TheVariants as ty
use Rattle.vcp_base.specs.Names.{is_same_name}
use Rattle.vcp_base.specs.Types.{fits, AreIn}
use Rattle.input_rows.specs.declared.fault.RowFault.{RowFault}
use Rattle.input_rows.specs.declared.fault.RowFault.TheVariants as fault
use Rattle.vcp_base.specs.Numerals.{integer_of, in_type}
use Rattle.input_rows.specs.Cells.{trimmed, spelled, value_of}
use Rattle.input_rows.specs.RowsOf.{RowsLeft, type_at, values_of, values_after, placed, row_onto, row_of, row_before, no_rows, rows_from}

in-type : (t : Ty) (o : Option ℤ) (v : ℤ) → option_and_then (in_type t) o ≡ Some v → fits t v ≡ true
in-type t None v e = absurd cc
in-type t (Some z) v e = by_test (fits t z) refl e
  where
    by_test : (b : Bool) → fits t z ≡ b → cond b (Some z) None ≡ Some v → fits t v ≡ true
    by_test true h e2 = let k : z ≡ v = cc in rw (← k) h
    by_test false h e2 = absurd cc

truth-fits : (a b : Bool) (v : ℤ) → cond a (Some (pos 1)) (cond b (Some (pos 0)) None) ≡ Some v → fits ty.Bool v ≡ true
truth-fits true b v e = let k : pos 1 ≡ v = cc in rw (← k) refl
truth-fits false true v e = let k : pos 0 ≡ v = cc in rw (← k) refl
truth-fits false false v e = absurd cc

spelled-fits : (t : Ty) (text : List ℕ) (v : ℤ) → spelled t text ≡ Some v → fits t v ≡ true
spelled-fits ty.Bool text v e =
    truth-fits (is_same_name text (codes "1") || is_same_name text (codes "true")) (is_same_name text (codes "0") || is_same_name text (codes "false")) v e
spelled-fits ty.Int text v e = in-type ty.Int (integer_of text) v e
spelled-fits ty.Dint text v e = in-type ty.Dint (integer_of text) v e
spelled-fits ty.Lint text v e = in-type ty.Lint (integer_of text) v e

zeros-in : (types : List Ty) → AreIn types (replicate (length types) (pos 0))
zeros-in [] = tt
zeros-in (t ∷ types) = (zero-fits t, zeros-in types)
  where
    zero-fits : (t : Ty) → fits t (pos 0) ≡ true
    zero-fits ty.Bool = refl
    zero-fits ty.Int = refl
    zero-fits ty.Dint = refl
    zero-fits ty.Lint = refl

set-in : (types : List Ty) (row : List ℤ) (p : ℕ) (v : ℤ) → AreIn types row → fits (type_at types p) v ≡ true → AreIn types (slice_set row p v)
set-in [] [] p v h f = tt
set-in [] (x ∷ row) p v h f = absurd h
set-in (t ∷ types) [] p v h f = absurd h
set-in (t ∷ types) (x ∷ row) zero v h f = (f, h.1)
set-in (t ∷ types) (x ∷ row) (suc p) v h f = (h.0, set-in types row p v h.1 f)

placed-in : (types : List Ty) (ps : List ℕ) (column : ℕ) (cells : List (List ℕ)) (vs row : List ℤ) → values_of column (map (type_at types) ps) cells ≡ Ok vs
    → AreIn types row → AreIn types (placed ps vs row)
placed-in types [] column cells vs row e h = h
placed-in types (p ∷ ps) column [] vs row e h = let k : [] ≡ vs = cc in rw (← k) h
placed-in types (p ∷ ps) column (cell ∷ cells) vs row e h =
    by_case (λ ws r f i. placed-in types ps (column + 1) cells ws r f i) (value_of (type_at types p) cell)
    (values_of (column + 1) (map (type_at types) ps) cells) refl refl e
  where
    by_case : ((ws r : List ℤ) → values_of (column + 1) (map (type_at types) ps) cells ≡ Ok ws → AreIn types r → AreIn types (placed ps ws r))
        → (o : Option ℤ) (r : Result (List ℤ) ℕ) → value_of (type_at types p) cell ≡ o → values_of (column + 1) (map (type_at types) ps) cells ≡ r
        → values_after column o r ≡ Ok vs → AreIn types (placed (p ∷ ps) vs row)
    by_case ih None r eo er e2 = absurd cc
    by_case ih (Some v) (Err k) eo er e2 = absurd cc
    by_case ih (Some v) (Ok ws) eo er e2 =
        let k : v ∷ ws ≡ vs = cc in
        rw (← k) (ih ws (slice_set row p v) er (set-in types row p v h (spelled-fits (type_at types p) (trimmed cell) v eo)))

values-in : (types : List Ty) (order : List ℕ) (number : ℕ) (cells : List (List ℕ)) (r : Result (List ℤ) ℕ) → values_of 1 (map (type_at types) order) cells ≡ r
    → IfOk (row_onto (replicate (length types) (pos 0)) order number r) (AreIn types)
values-in types order number cells (Ok vs) e = placed-in types order 1 cells vs (replicate (length types) (pos 0)) e (zeros-in types)
values-in types order number cells (Err k) e = tt

row-in : (types : List Ty) (order : List ℕ) (number : ℕ) (cells : List (List ℕ)) → IfOk (row_of types order number cells) (AreIn types)
row-in types order number cells = by_test (length cells == length types)
  where
    by_test : (b : Bool)
        → IfOk (cond b (row_onto (replicate (length types) (pos 0)) order number (values_of 1 (map (type_at types) order) cells)) (Err (fault.Width number)))
        (AreIn types)
    by_test true = values-in types order number cells (values_of 1 (map (type_at types) order) cells) refl
    by_test false = tt

before-in : (types : List Ty) (r : Result (List ℤ) RowFault) (more : RowsLeft) → IfOk r (AreIn types) → All (AreIn types) more.rows
    → All (AreIn types) (row_before types r more).rows
before-in types (Ok row) more h all = All-cons (AreIn types) row more.rows h all
before-in types (Err why) more h all = All-nil (AreIn types)

pub rows-in : (types : List Ty) (order : List ℕ) (cycle : ℕ) (records : List (List (List ℕ))) → All (AreIn types) (rows_from types order cycle records).rows
rows-in types order cycle [] = All-nil (AreIn types)
rows-in types order cycle (cells ∷ records) = by_test (nat_lt cycle most_cycles) (rows-in types order (cycle + 1) records)
  where
    by_test : (b : Bool) → All (AreIn types) (rows_from types order (cycle + 1) records).rows
        → All (AreIn types)
        (cond b (row_before types (row_of types order (cycle + 2) cells) (rows_from types order (cycle + 1) records))
        (no_rows types (Some fault.Cycles))).rows
    by_test true all =
        before-in types (row_of types order (cycle + 2) cells) (rows_from types order (cycle + 1) records) (row-in types order (cycle + 2) cells) all
    by_test false all = All-nil (AreIn types)
