-- Values: which cell is which value, as rows print it.
use Rattle.std.specs.Prelude.{ℕ, ◌+◌, List, [], ◌∷◌, ◌++◌, cond, bytes_eq, Option, Some, None, option_and_then, Result, Ok, Err, ℤ}
use Rattle.std.specs.Fmt.{signed_decimal}
use Rattle.vcp_base.specs.declared.ty.Ty.TheVariants as ty
use Rattle.vcp_base.specs.Numerals.{integer_of, in_type}
use Rattle.input_rows.specs.RowsOf.{values_after}

-- a value, where the cell is just as it is printed
abbrev pub printed_as : List ℕ → ℤ → Option ℤ
printed_as cell v = cond (bytes_eq cell (signed_decimal v)) (Some v) None

-- the value of LINT that prints as this cell, if there is one
abbrev pub printed_value : List ℕ → Option ℤ
printed_value cell = option_and_then (printed_as cell) (option_and_then (in_type ty.Lint) (integer_of cell))

-- the values of cells, or the number of the first column whose cell is none; columns count on from the first number
abbrev pub values_of : ℕ → List (List ℕ) → Result (List ℤ) ℕ
values_of column [] = Ok []
values_of column (cell ∷ cells) = values_after column (printed_value cell) (values_of (column + 1) cells)

-- values behind these
abbrev pub behind : List ℤ → Result (List ℤ) ℕ → Result (List ℤ) ℕ
behind row (Ok values) = Ok (row ++ values)
behind row (Err column) = Err column
