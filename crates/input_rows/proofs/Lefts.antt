-- What is left of records, whatever they are.
use Rattle.std.proofs.Common.{◌≡◌, ◌≤◌, ℕ, ◌+◌, ◌-◌, Bool, true, false, ◌==◌, nat_lt, cond, List, [], ◌∷◌, length, map, replicate, Option, Some, None, IfSome}
use Rattle.std.proofs.Common.{IfErr, Result, Ok, Err, ℤ, pos, refl, arith}
use Rattle.std.proofs.lemmas.Bool.{ltb-true}
use Rattle.vcp_base.specs.Limits.{most_cycles}
use Rattle.vcp_base.specs.declared.ty.Ty.{Ty}
use Rattle.input_rows.specs.declared.fault.RowFault.{RowFault}
use Rattle.input_rows.specs.declared.fault.RowFault.TheVariants as fault
use Rattle.input_rows.specs.RowsOf.{RowsLeft, IsOfRecord, type_at, values_of, row_onto, no_rows, row_before, row_of, rows_from}
use Rattle.input_rows.specs.TableLeft.{Ordered, left_from}

before-types : (types : List Ty) (r : Result (List ℤ) RowFault) (more : RowsLeft) → more.types ≡ types → (row_before types r more).types ≡ types
before-types types (Ok row) more e = e
before-types types (Err why) more e = refl

pub types-from : (types : List Ty) (order : List ℕ) (cycle : ℕ) (records : List (List (List ℕ))) → (rows_from types order cycle records).types ≡ types
types-from types order cycle [] = refl
types-from types order cycle (cells ∷ records) = by_test (nat_lt cycle most_cycles) (types-from types order (cycle + 1) records)
  where
    by_test : (b : Bool) → (rows_from types order (cycle + 1) records).types ≡ types
        → (cond b (row_before types (row_of types order (cycle + 2) cells) (rows_from types order (cycle + 1) records))
        (no_rows types (Some fault.Cycles))).types ≡ types
    by_test true e = before-types types (row_of types order (cycle + 2) cells) (rows_from types order (cycle + 1) records) e
    by_test false e = refl

before-fresh : (types : List Ty) (r : Result (List ℤ) RowFault) (more : RowsLeft) → more.ended ≡ false → (row_before types r more).ended ≡ false
before-fresh types (Ok row) more e = e
before-fresh types (Err why) more e = refl

pub fresh-from : (types : List Ty) (order : List ℕ) (cycle : ℕ) (records : List (List (List ℕ))) → (rows_from types order cycle records).ended ≡ false
fresh-from types order cycle [] = refl
fresh-from types order cycle (cells ∷ records) = by_test (nat_lt cycle most_cycles) (fresh-from types order (cycle + 1) records)
  where
    by_test : (b : Bool) → (rows_from types order (cycle + 1) records).ended ≡ false
        → (cond b (row_before types (row_of types order (cycle + 2) cells) (rows_from types order (cycle + 1) records))
        (no_rows types (Some fault.Cycles))).ended ≡ false
    by_test true e = before-fresh types (row_of types order (cycle + 2) cells) (rows_from types order (cycle + 1) records) e
    by_test false e = refl

pub left-types : (o : Ordered) (cycle : ℕ) (records : Option (List (List (List ℕ)))) → (left_from o cycle records).types ≡ o.types
left-types o cycle None = refl
left-types o cycle (Some records) = types-from o.types o.places cycle records

pub left-fresh : (o : Ordered) (cycle : ℕ) (records : Option (List (List (List ℕ)))) → (left_from o cycle records).ended ≡ false
left-fresh o cycle None = refl
left-fresh o cycle (Some records) = fresh-from o.types o.places cycle records

-- no more rows than cycles are left
before-few : (types : List Ty) (r : Result (List ℤ) RowFault) (more : RowsLeft) (n : ℕ) → length more.rows ≤ n → length (row_before types r more).rows ≤ n + 1
before-few types (Ok row) more n e = omega arith
before-few types (Err why) more n e = omega arith

pub few-from : (types : List Ty) (order : List ℕ) (cycle : ℕ) (records : List (List (List ℕ)))
    → length (rows_from types order cycle records).rows ≤ most_cycles - cycle
few-from types order cycle [] = omega arith
few-from types order cycle (cells ∷ records) = by_test (nat_lt cycle most_cycles) refl (few-from types order (cycle + 1) records)
  where
    by_test : (b : Bool) → nat_lt cycle most_cycles ≡ b → length (rows_from types order (cycle + 1) records).rows ≤ most_cycles - (cycle + 1)
        → length (cond b (row_before types (row_of types order (cycle + 2) cells) (rows_from types order (cycle + 1) records))
        (no_rows types (Some fault.Cycles))).rows ≤ most_cycles - cycle
    by_test true t e =
        let less = ltb-true cycle most_cycles t in
        let k = before-few types (row_of types order (cycle + 2) cells) (rows_from types order (cycle + 1) records) (most_cycles - (cycle + 1)) e in
        omega arith
    by_test false t e = omega arith

-- the refusal is of a record
values-kind : (row : List ℤ) (order : List ℕ) (number : ℕ) (r : Result (List ℤ) ℕ) → IfErr (row_onto row order number r) IsOfRecord
values-kind row order number (Ok vs) = tt
values-kind row order number (Err k) = tt

row-kind : (types : List Ty) (order : List ℕ) (number : ℕ) (cells : List (List ℕ)) → IfErr (row_of types order number cells) IsOfRecord
row-kind types order number cells = by_test (length cells == length types)
  where
    by_test : (b : Bool)
        → IfErr (cond b (row_onto (replicate (length types) (pos 0)) order number (values_of 1 (map (type_at types) order) cells))
        (Err (fault.Width number))) IsOfRecord
    by_test true = values-kind (replicate (length types) (pos 0)) order number (values_of 1 (map (type_at types) order) cells)
    by_test false = tt

before-kind : (types : List Ty) (r : Result (List ℤ) RowFault) (more : RowsLeft) → IfErr r IsOfRecord → IfSome more.refusal IsOfRecord
    → IfSome (row_before types r more).refusal IsOfRecord
before-kind types (Ok row) more k e = e
before-kind types (Err why) more k e = k

pub kind-from : (types : List Ty) (order : List ℕ) (cycle : ℕ) (records : List (List (List ℕ)))
    → IfSome (rows_from types order cycle records).refusal IsOfRecord
kind-from types order cycle [] = tt
kind-from types order cycle (cells ∷ records) = by_test (nat_lt cycle most_cycles) (kind-from types order (cycle + 1) records)
  where
    by_test : (b : Bool) → IfSome (rows_from types order (cycle + 1) records).refusal IsOfRecord
        → IfSome (cond b (row_before types (row_of types order (cycle + 2) cells) (rows_from types order (cycle + 1) records))
        (no_rows types (Some fault.Cycles))).refusal IsOfRecord
    by_test true e =
        before-kind types (row_of types order (cycle + 2) cells) (rows_from types order (cycle + 1) records) (row-kind types order (cycle + 2) cells) e
    by_test false e = tt
