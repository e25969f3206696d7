-- What is left of the rows of a source that are wanted.
use Rattle.input_rows.specs.RowsOf.{RowsLeft, first_rows, ended_with}
use Rattle.input_rows.specs.declared.wanted.Wanted.{Wanted}
use Rattle.input_rows.specs.declared.wanted.Wanted.TheVariants.{All, First, Ended}

abbrev pub wanted_rows : Wanted → RowsLeft → RowsLeft
wanted_rows All left = left
wanted_rows (First n behind) left = first_rows n behind left
wanted_rows (Ended refusal) left = ended_with left.types refusal
