-- Worked cells, headers and files.
use Rattle.std.specs.Prelude.{◌≡◌, refl, false, List, [], ◌∷◌, ◌++◌, Option, Some, None, Result, Ok, Err, ℤ, pos, negsuc, codes}
use Rattle.csv.specs.Machine.{next_record}
use Rattle.csv.specs.Reading.{records_from, strip_bom}
use Rattle.vcp_base.specs.declared.ty.Ty.TheVariants as ty
use Rattle.vcp_base.specs.declared.columns.Column.{Column}
use Rattle.input_rows.specs.declared.fault.RowFault.{RowFault}
use Rattle.input_rows.specs.declared.fault.RowFault.TheVariants as fault
use Rattle.input_rows.specs.Cells.{value_of}
use Rattle.input_rows.specs.Header.{order_of}
use Rattle.input_rows.specs.RowsOf.{RowsLeft, row_of, rows_of_records, rows_of, rows_of_cycles, through}

-- `true` in any case, blanks at both ends
truth : value_of ty.Bool (codes " TrUe" ++ 9 ∷ []) ≡ Some (pos 1)
truth = refl

no_truth : value_of ty.Bool (codes "2") ≡ None
no_truth = refl

zeros_before : value_of ty.Int (codes "-032768") ≡ Some (negsuc 32767)
zeros_before = refl

too_great : value_of ty.Int (codes "32768") ≡ None
too_great = refl

zero_below : value_of ty.Dint (codes "-0") ≡ Some (pos 0)
zero_below = refl

signed : value_of ty.Dint (codes "+5") ≡ Some (pos 5)
signed = refl

sign_alone : value_of ty.Dint (codes "-") ≡ None
sign_alone = refl

blank_inside : value_of ty.Dint (codes "- 1") ≡ None
blank_inside = refl

empty_cell : value_of ty.Dint [] ≡ None
empty_cell = refl

least_lint : value_of ty.Lint (codes "-9223372036854775808") ≡ Some (negsuc 9223372036854775807)
least_lint = refl

past_lint : value_of ty.Lint (codes "9223372036854775808") ≡ None
past_lint = refl

abbrev x : Column
x = record { name = codes "x"; ty = ty.Int }

abbrev go : Column
go = record { name = codes "go"; ty = ty.Bool }

-- names in another order and case, blanks at both ends
other_order : order_of (x ∷ go ∷ []) (codes "GO " ∷ codes "x" ∷ []) ≡ Some (1 ∷ 0 ∷ [])
other_order = refl

name_twice : order_of (x ∷ go ∷ []) (codes "x" ∷ codes "X" ∷ []) ≡ None
name_twice = refl

-- columns of one name, as no program has them, take the fields in order
one_name : order_of (x ∷ x ∷ []) (codes "x" ∷ codes "X" ∷ []) ≡ Some (0 ∷ 1 ∷ [])
one_name = refl

name_too_many : order_of (x ∷ []) (codes "x" ∷ codes "y" ∷ []) ≡ None
name_too_many = refl

abbrev left : List (List ℤ) → Option RowFault → Result RowsLeft RowFault
left rows refusal = Ok (record { types = ty.Int ∷ ty.Bool ∷ []; rows = rows; refusal = refusal; ended = false })

-- the values stand in the columns' order
in_order : rows_of_records (x ∷ go ∷ []) ((codes "go" ∷ codes "x" ∷ []) ∷ (codes "1" ∷ codes "7" ∷ []) ∷ []) ≡ left ((pos 7 ∷ pos 1 ∷ []) ∷ []) None
in_order = refl

-- the rows before a refused record stand, and none behind it; the cell is told by its place in the record
cell_refused : rows_of_records (x ∷ go ∷ []) ((codes "go" ∷ codes "x" ∷ []) ∷ (codes "1" ∷ codes "7" ∷ []) ∷ (codes "0" ∷ codes "7x" ∷ [])
    ∷ (codes "1" ∷ codes "8" ∷ []) ∷ []) ≡ left ((pos 7 ∷ pos 1 ∷ []) ∷ []) (Some (fault.Cell 3 2))
cell_refused = refl

-- the number of fields comes before the cells
width_first : row_of (ty.Int ∷ ty.Bool ∷ []) (0 ∷ 1 ∷ []) 2 (codes "a" ∷ []) ≡ Err (fault.Width 2)
width_first = refl

no_record : rows_of_records (x ∷ []) [] ≡ Err fault.Header
no_record = refl

-- x, 5
file : rows_of (120 ∷ 10 ∷ 53 ∷ []) (record { name = codes "x"; ty = ty.Dint } ∷ [])
    ≡ Ok (record { types = ty.Dint ∷ []; rows = (pos 5 ∷ []) ∷ []; refusal = None; ended = false })
unfolding next_record records_from strip_bom
file = refl

no_columns : rows_of (120 ∷ []) [] ≡ Err fault.Form
no_columns = refl

three_cycles : rows_of_cycles 3 [] ≡ Ok (record { types = []; rows = [] ∷ [] ∷ [] ∷ []; refusal = None; ended = false })
three_cycles = refl

cycles_with_columns : rows_of_cycles 3 (x ∷ []) ≡ Err fault.Form
cycles_with_columns = refl

-- two rows and a refusal behind them
abbrev two : RowsLeft
two = record { types = ty.Dint ∷ []; rows = (pos 5 ∷ []) ∷ (pos 6 ∷ []) ∷ []; refusal = Some (fault.Cell 4 1); ended = false }

through_the_first : through 0 two ≡ record two { rows = (pos 5 ∷ []) ∷ []; refusal = None }
through_the_first = refl

-- what stands behind the cycle is not looked at
through_the_last : through 1 two ≡ record two { refusal = None }
through_the_last = refl

refused_before : through 2 two ≡ two
refused_before = refl

ended_before : through 2 (record two { refusal = None }) ≡ record two { refusal = Some fault.Cycle }
ended_before = refl
