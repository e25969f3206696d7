-- The rows of a file, or of a number of cycles.
use Rattle.std.specs.Prelude.{ℕ, ◌+◌, ◌==◌, nat_le, nat_lt, Bool, true, false, cond, List, [], ◌∷◌, length, map, replicate, take, slice_index_or, ⊤, slice_set}
use Rattle.std.specs.Prelude.{Option, Some, None, Result, Ok, Err, ℤ, pos}
use Rattle.csv.specs.Reading.{records, default_config, strip_bom}
use Rattle.vcp_base.specs.Limits.{most_cycles}
use Rattle.vcp_base.specs.declared.ty.Ty.{Ty}
use Rattle.vcp_base.specs.declared.ty.Ty.TheVariants as ty
use Rattle.vcp_base.specs.declared.columns.Column.{Column}
use Rattle.input_rows.specs.declared.fault.RowFault.{RowFault}
use Rattle.input_rows.specs.declared.fault.RowFault.TheVariants as fault
use Rattle.input_rows.specs.Cells.{value_of}
use Rattle.input_rows.specs.Header.{order_of}

-- what is left: the types of a row's values, the rows, the refusal behind them or none, and whether their end, which is that refusal where there
-- is one, was given
pub record RowsLeft : Type 0 where
  pub types : List Ty
  pub rows : List (List ℤ)
  pub refusal : Option RowFault
  pub ended : Bool

-- the types of the columns
abbrev pub types_of : List Column → List Ty
types_of columns = map (λ c. c.ty) columns

-- the type at a place
abbrev pub type_at : List Ty → ℕ → Ty
type_at types i = slice_index_or types i ty.Bool

-- a value before the values of the cells behind its own, unless its cell spells none
abbrev pub values_after : ℕ → Option ℤ → Result (List ℤ) ℕ → Result (List ℤ) ℕ
values_after column None more = Err column
values_after column (Some v) (Ok vs) = Ok (v ∷ vs)
values_after column (Some v) (Err later) = Err later

-- the values of cells of these types, or the number of the first column whose cell spells none; columns count on from the first number
abbrev pub values_of : ℕ → List Ty → List (List ℕ) → Result (List ℤ) ℕ
values_of column [] cells = Ok []
values_of column (t ∷ types) [] = Ok []
values_of column (t ∷ types) (cell ∷ cells) = values_after column (value_of t cell) (values_of (column + 1) types cells)

-- a row with each value at its place
abbrev pub placed : List ℕ → List ℤ → List ℤ → List ℤ
placed [] values row = row
placed (i ∷ places) [] row = row
placed (i ∷ places) (v ∷ values) row = placed places values (slice_set row i v)

-- a row with the values at their places, or why the record of this number is refused
abbrev pub row_onto : List ℤ → List ℕ → ℕ → Result (List ℤ) ℕ → Result (List ℤ) RowFault
row_onto row order number (Ok values) = Ok (placed order values row)
row_onto row order number (Err column) = Err (fault.Cell number column)

-- The row of the record of this number, or why it is refused: the number of its fields comes first, then the first cell that spells no value.
-- Each value of the row is set, since an order has each place.
abbrev pub row_of : List Ty → List ℕ → ℕ → List (List ℕ) → Result (List ℤ) RowFault
row_of types order number cells =
    cond (length cells == length types)
    (row_onto (replicate (length types) (pos 0)) order number (values_of 1 (map (type_at types) order) cells))
    (Err (fault.Width number))

-- no rows, and a refusal or none
abbrev pub no_rows : List Ty → Option RowFault → RowsLeft
no_rows types refusal = record { types = types; rows = []; refusal = refusal; ended = false }

-- after the end of rows was given, with this refusal behind them or none
abbrev pub ended_with : List Ty → Option RowFault → RowsLeft
ended_with types refusal = record { types = types; rows = []; refusal = refusal; ended = true }

-- what is answered at the end of rows with this refusal behind them, or none: that there is no row, or the refusal
abbrev pub end_answer : Option RowFault → Result Bool RowFault
end_answer None = Ok false
end_answer (Some why) = Err why

-- a row before what is left, or its refusal and nothing more
abbrev pub row_before : List Ty → Result (List ℤ) RowFault → RowsLeft → RowsLeft
row_before types (Ok row) more = record more { rows = row ∷ more.rows }
row_before types (Err why) more = no_rows types (Some why)

-- the rows of records from a cycle on, up to the first record that is refused; cycles count from 0, and records from 1, the header's
abbrev pub rows_from : List Ty → List ℕ → ℕ → List (List (List ℕ)) → RowsLeft
rows_from types order cycle [] = no_rows types None
rows_from types order cycle (cells ∷ records) =
    cond (nat_lt cycle most_cycles)
    (row_before types (row_of types order (cycle + 2) cells) (rows_from types order (cycle + 1) records))
    (no_rows types (Some fault.Cycles))

-- the rows under a header of this order, or of none
abbrev pub rows_in_order : List Column → Option (List ℕ) → List (List (List ℕ)) → Result RowsLeft RowFault
rows_in_order columns None records = Err fault.Header
rows_in_order columns (Some order) records = Ok (rows_from (types_of columns) order 0 records)

-- the rows of records of which the first is the header
abbrev pub rows_of_records : List Column → List (List (List ℕ)) → Result RowsLeft RowFault
rows_of_records columns [] = Err fault.Header
rows_of_records columns (header ∷ records) = rows_in_order columns (order_of columns header) records

-- The rows of a file's bytes. Its records are those of RFC 4180 as `csv` gives them: fields between commas, quotes as they are by default,
-- a byte order mark at the front skipped, any number of fields.
abbrev pub rows_of : List ℕ → List Column → Result RowsLeft RowFault
rows_of bytes [] = Err fault.Form
rows_of bytes (c ∷ columns) = rows_of_records (c ∷ columns) (records default_config (strip_bom bytes))

-- as many rows of no values as there are cycles, where there are no columns
abbrev pub rows_of_cycles : ℕ → List Column → Result RowsLeft RowFault
rows_of_cycles number [] = Ok (record { types = []; rows = replicate number []; refusal = None; ended = false })
rows_of_cycles number (c ∷ columns) = Err fault.Form

-- what stands behind rows that are wanted: this where there are as many, else the refusal behind those that there are, or `Cycle` where there
-- is none
abbrev pub behind_wanted : Bool → Option RowFault → Option RowFault → Option RowFault
behind_wanted true this refusal = this
behind_wanted false this None = Some fault.Cycle
behind_wanted false this (Some why) = Some why

-- the first so many rows, and this behind them
abbrev pub first_rows : ℕ → Option RowFault → RowsLeft → RowsLeft
first_rows n this left = record left { rows = take n left.rows; refusal = behind_wanted (nat_le n (length left.rows)) this left.refusal }

-- the rows through a cycle and no further, where cycles count from 0: behind it nothing stands
abbrev pub through : ℕ → RowsLeft → RowsLeft
through cycle left = first_rows (cycle + 1) None left

-- a refusal of one record, or of a cycle without one, and not of a header, a form or for want of memory
abbrev pub IsOfRecord : RowFault → Type 0
IsOfRecord (fault.Width row) = ⊤
IsOfRecord (fault.Cell row column) = ⊤
IsOfRecord fault.Cycles = ⊤
IsOfRecord fault.Cycle = ⊤
IsOfRecord fault.Header = ⊥
IsOfRecord fault.Form = ⊥
IsOfRecord fault.Memory = ⊥
