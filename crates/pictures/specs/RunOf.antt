-- RunOf: the run that a text tells, or why it tells none.
use Rattle.std.specs.Prelude.{ℕ, ◌+◌, ◌-◌, ◌==◌, Bool, nat_le, nat_lt, cond, List, [], ◌∷◌, length, get_or, bytes_eq, codes, decimal, Option, Some, None, Result, Ok, Err, ℤ}
use Rattle.csv.specs.Reading.{records, default_config, strip_bom}
use Rattle.vcp_base.specs.Limits.{most_cycles, most_names}
use Rattle.pictures.specs.declared.waves.fault.RunTextFault.{RunTextFault}
use Rattle.pictures.specs.declared.waves.fault.RunTextFault.TheVariants as fault
use Rattle.pictures.specs.declared.waves.ending.Mark.{Mark}
use Rattle.pictures.specs.declared.waves.ending.Ending.{Ending}
use Rattle.pictures.specs.declared.waves.lines.Line.{Line}
use Rattle.pictures.specs.declared.waves.lines.Line.TheVariants as line
use Rattle.pictures.specs.Values.{values_of}
use Rattle.pictures.specs.Ending.{mark_of}

-- a run: the outputs' names, the values of each cycle in their order, and how it ended
pub record Recorded : Type 0 where
  pub names : List (List ℕ)
  pub rows : List (List ℤ)
  pub ending : Ending

-- what the lines behind a header tell: the rows, and behind them how the run ended, or why the lines are refused
pub record ToldLines : Type 0 where
  pub rows : List (List ℤ)
  pub behind : Result Ending RunTextFault

-- ---- one line; the record of the row of cycle n has the number n + 2, since the header's is 1

-- a row of values, or a refusal of the cell in this column of the record of this number
abbrev pub row_of_values : ℕ → Result (List ℤ) ℕ → Result (List ℤ) RunTextFault
row_of_values number (Ok values) = Ok values
row_of_values number (Err column) = Err (fault.Cell number column)

abbrev pub line_with : Result (List ℤ) RunTextFault → Result Line RunTextFault
line_with (Ok row) = Ok (line.Row row)
line_with (Err why) = Err why

-- the row of a cycle, by the cells behind the cycle's number, which are as many as there are names
abbrev pub row_line : ℕ → ℕ → List (List ℕ) → Result Line RunTextFault
row_line width cycle cells =
    cond (nat_lt cycle most_cycles)
    (cond (length cells == width) (line_with (row_of_values (cycle + 2) (values_of 2 cells))) (Err (fault.Width (cycle + 2))))
    (Err fault.Cycles)

abbrev pub last_with : ℕ → List ℕ → Option Mark → Result Ending RunTextFault
last_with cycle text None = Err (fault.Line (cycle + 2))
last_with cycle text (Some m) = Ok (record { mark = m; text = text })

-- the last line, which is one cell
abbrev pub last_line : ℕ → List ℕ → List (List ℕ) → Result Ending RunTextFault
last_line cycle text [] = last_with cycle text (mark_of cycle text)
last_line cycle text (cell ∷ cells) = Err (fault.Line (cycle + 2))

abbrev pub ended_with : Result Ending RunTextFault → Result Line RunTextFault
ended_with (Ok ending) = Ok (line.Last ending)
ended_with (Err why) = Err why

-- the line that stands where the row of a cycle may stand: that row, which begins with the cycle's number, or the last line
abbrev pub line_of : ℕ → ℕ → List (List ℕ) → Result Line RunTextFault
line_of width cycle [] = Err (fault.Line (cycle + 2))
line_of width cycle (first ∷ cells) = cond (bytes_eq first (decimal cycle)) (row_line width cycle cells) (ended_with (last_line cycle first cells))

-- ---- all lines

abbrev pub no_rows : Result Ending RunTextFault → ToldLines
no_rows behind = record { rows = []; behind = behind }

-- nothing stands behind the last line
abbrev pub last_of : ℕ → Ending → List (List (List ℕ)) → Result Ending RunTextFault
last_of number ending [] = Ok ending
last_of number ending (cells ∷ records) = Err (fault.Rest (number + 1))

-- a line before the records behind it, of which this is told
abbrev pub told_with : ℕ → Result Line RunTextFault → List (List (List ℕ)) → ToldLines → ToldLines
told_with number (Ok (line.Row row)) records more = record more { rows = row ∷ more.rows }
told_with number (Ok (line.Last ending)) records more = no_rows (last_of number ending records)
told_with number (Err why) records more = no_rows (Err why)

-- what records tell from a cycle on
abbrev pub told_from : ℕ → ℕ → List (List (List ℕ)) → ToldLines
told_from width cycle [] = no_rows (Err fault.End)
told_from width cycle (cells ∷ records) = told_with (cycle + 2) (line_of width cycle cells) records (told_from width (cycle + 1) records)

-- ---- the whole text

-- the names in a header: what stands behind `cycle`
abbrev pub names_of : List (List ℕ) → Result (List (List ℕ)) RunTextFault
names_of [] = Err fault.Header
names_of (first ∷ names) =
    cond (bytes_eq first (codes "cycle")) (cond (nat_le (length names) most_names) (Ok names) (Err fault.Names)) (Err fault.Header)

abbrev pub run_by : List (List ℕ) → List (List ℤ) → Result Ending RunTextFault → Result Recorded RunTextFault
run_by names rows (Ok ending) = Ok (record { names = names; rows = rows; ending = ending })
run_by names rows (Err why) = Err why

abbrev pub run_with : List (List ℕ) → ToldLines → Result Recorded RunTextFault
run_with names told = run_by names told.rows told.behind

abbrev pub run_under : Result (List (List ℕ)) RunTextFault → List (List (List ℕ)) → Result Recorded RunTextFault
run_under (Ok names) records = run_with names (told_from (length names) 0 records)
run_under (Err why) records = Err why

abbrev pub run_of_records : List (List (List ℕ)) → Result Recorded RunTextFault
run_of_records [] = Err fault.Header
run_of_records (header ∷ records) = run_under (names_of header) records

-- a text whose last byte is LF
abbrev pub ends_a_line : List ℕ → Bool
ends_a_line text = get_or text (length text - 1) 0 == 10

-- a run, where the text isn't cut in its last line
abbrev pub uncut : Bool → Result Recorded RunTextFault → Result Recorded RunTextFault
uncut whole (Ok run) = cond whole (Ok run) (Err fault.Cut)
uncut whole (Err why) = Err why

-- The run that a text tells. Its records are those of RFC 4180 as `csv` gives them.
abbrev pub run_of : List ℕ → Result Recorded RunTextFault
run_of text = uncut (ends_a_line text) (run_of_records (records default_config (strip_bom text)))
