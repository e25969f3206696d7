-- What is left of a file whose header was read.
use Rattle.std.specs.Prelude.{ℕ, List, Option, Some, None, Result, Ok, Err, ℤ, ◌≡◌, Bool, true, false, length}
use Rattle.vcp_base.specs.declared.ty.Ty.{Ty}
use Rattle.input_rows.specs.declared.fault.RowFault.{RowFault}
use Rattle.input_rows.specs.declared.fault.RowFault.TheVariants as fault
use Rattle.input_rows.specs.RowsOf.{RowsLeft, rows_from, no_rows}

-- the types of the columns, and for each field of a record the place of its column
pub record Ordered : Type 0 where
  pub types : List Ty
  pub places : List ℕ

-- what is left of records from a cycle on; want of memory where they are not known
abbrev pub left_from : Ordered → ℕ → Option (List (List (List ℕ))) → RowsLeft
left_from o cycle None = no_rows o.types (Some fault.Memory)
left_from o cycle (Some records) = rows_from o.types o.places cycle records

-- a call that sets a row answers as is expected of it, and its row is then the expected one
abbrev pub SetsRow : Result (List ℤ) RowFault → Result (Unit {0}) RowFault → List ℤ → Type 0
SetsRow expected (Ok done) row = expected ≡ Ok row
SetsRow expected (Err why) row = expected ≡ Err why

-- what two readers have left, and the room for a row: the same, up to the end or a refusal
pub record LeftTwice (first second : RowsLeft) (row : List ℤ) (going : Bool) : Type 0 where
  pub same : going ≡ true → second ≡ first
  pub types : second.types ≡ first.types
  pub fresh : first.ended ≡ false
  pub width : length row ≡ length first.types
