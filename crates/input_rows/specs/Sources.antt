-- What is left of the sources that rows come from.
use Rattle.std.specs.Prelude.{[], None, false, replicate}
use Rattle.input_rows.specs.RowsOf.{RowsLeft}
use Rattle.input_rows.specs.declared.all_rows.Source.{Source}
use Rattle.input_rows.specs.declared.all_rows.Source.TheVariants.{Cycles, File}

abbrev pub rows_left : Source → RowsLeft
rows_left (Cycles number) = record { types = []; rows = replicate number []; refusal = None; ended = false }
rows_left (File left) = left
