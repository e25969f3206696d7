-- Openings: what the first record of a file says of its rows.
use Rattle.std.proofs.Common.{◌≡◌, ◌≤◌, ◌∙◌, ℕ, ℤ, pos, Bool, true, false, List, length, replicate, Option, Some, None, Result, Ok, Err, sym, ap, subst, arith}
use Rattle.std.proofs.lemmas.List.{length-replicate, length-map}
use Rattle.vcp_base.specs.Limits.{most_cycles}
use Rattle.vcp_base.specs.declared.columns.Column.{Column}
use Rattle.vcp_base.specs.declared.ty.Ty.{Ty}
use Rattle.input_rows.specs.declared.fault.RowFault.{RowFault}
use Rattle.input_rows.specs.declared.fault.RowFault.TheVariants as fault
use Rattle.input_rows.specs.Header.{order_of}
use Rattle.input_rows.specs.RecordsLeft.{Takes}
use Rattle.input_rows.specs.RowsOf.{RowsLeft, types_of, rows_from, rows_in_order, rows_of_records}
use Rattle.input_rows.specs.TableLeft.{Ordered, left_from}

some_is : {X : Type 0} {a b : X} → Some a ≡ Some b → a ≡ b
some_is e = cc

-- the rows under a header of this order
pub rows_under : (columns : List Column) {all : List (List (List ℕ))} (old new : Option (List (List (List ℕ)))) (fields : List (List ℕ)) (found : Bool)
    (o : Ordered) → old ≡ Some all → found ≡ true → Takes old new fields found → order_of columns fields ≡ Some o.places → o.types ≡ types_of columns
    → rows_of_records columns all ≡ Ok (left_from o 0 new)
rows_under columns old new fields found o is test takes order types =
    let t : Takes old new fields true = subst (Takes old new fields) test takes in
    ap (rows_of_records columns) (some_is (sym is ∙ t.1)) ∙ ap (λ places. rows_in_order columns places t.0) order
    ∙ ap {B = Result RowsLeft RowFault} (λ ty. Ok (rows_from ty o.places 0 t.0)) (sym types)
    ∙ ap {B = Result RowsLeft RowFault} (λ rest. Ok (left_from o 0 rest)) (sym t.2)

-- a file without records
pub no_header : (columns : List Column) {all : List (List (List ℕ))} (old new : Option (List (List (List ℕ)))) (fields : List (List ℕ)) (found : Bool)
    → old ≡ Some all → found ≡ false → Takes old new fields found → rows_of_records columns all ≡ Err fault.Header
no_header columns old new fields found is test takes =
    let t : Takes old new fields false = subst (Takes old new fields) test takes in
    ap (rows_of_records columns) (some_is (sym is ∙ t.0))

-- a header that is no order
pub no_order : (columns : List Column) {all : List (List (List ℕ))} (old new : Option (List (List (List ℕ)))) (fields : List (List ℕ)) (found : Bool)
    {why : RowFault} → old ≡ Some all → found ≡ true → Takes old new fields found → (why ≡ fault.Header) × (order_of columns fields ≡ None)
    → rows_of_records columns all ≡ Err why
no_order columns old new fields found is test takes refused =
    let t : Takes old new fields true = subst (Takes old new fields) test takes in
    ap (rows_of_records columns) (some_is (sym is ∙ t.1)) ∙ ap (λ places. rows_in_order columns places t.0) refused.1
    ∙ ap {B = Result RowsLeft RowFault} Err (sym refused.0)

-- a row of no values is as wide as the columns
pub as_wide : (columns : List Column) {n : ℕ} {row : List ℤ} {types : List Ty} → row ≡ replicate n (pos 0) → n ≡ length columns → types ≡ types_of columns
    → (length row ≡ length types) × (0 ≤ most_cycles)
as_wide columns {n = n} {types = types} is all same = (
  ap length is ∙ length-replicate n (pos 0) ∙ all ∙ sym (length-map columns (λ (c : Column). c.ty)) ∙ ap length (sym same),
  omega arith,
)
