-- Opening: the rows of a source, before any is read.
use Rattle.std.specs.Prelude.{◌≤◌, List, Result}
use Rattle.vcp_base.specs.Limits.{most_cycles}
use Rattle.vcp_base.specs.declared.columns.Column.{Column}
use Rattle.input_rows.specs.declared.fault.RowFault.{RowFault}
use Rattle.input_rows.specs.declared.source.RowsSource.{RowsSource}
use Rattle.input_rows.specs.declared.source.RowsSource.TheVariants as source
use Rattle.input_rows.specs.RowsOf.{RowsLeft, rows_of, rows_of_cycles}

-- the rows for these columns, or the refusal in their place
abbrev pub source_rows : RowsSource → List Column → Result RowsLeft RowFault
source_rows (source.File bytes) columns = rows_of bytes columns
source_rows (source.Cycles n) columns = rows_of_cycles n columns

-- a source of cycles has as many as a run may have
abbrev pub HasFewCycles : RowsSource → Type 0
HasFewCycles (source.File bytes) = Unit {0}
HasFewCycles (source.Cycles n) = n ≤ most_cycles
