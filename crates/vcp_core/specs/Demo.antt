-- Demo: the words `demo N`. The source and the rows that are made of the number are taken through their refusals, and the program's run, in
-- the code that holds where none is given, is summed up in one line.
use Rattle.std.specs.Prelude.{ℕ, ℤ, pos, ◌+ℤ◌, unsigned_abs, ◌*◌, ◌≡◌, ◌≤◌, ◌^◌, List, [], ◌∷◌, length, Option, Some, None}
use Rattle.vcp_base.specs.Limits.{most_cycles}
use Rattle.vcp_outside.specs.Held.{Held}
use Rattle.input_rows.specs.declared.fault.RowFault.{RowFault}
use Rattle.input_rows.specs.RowsOf.{RowsLeft}
use Rattle.vcp_typed.specs.Fitting.{input_columns}
use Rattle.vcp_typed.specs.SourceRun.{Program}
use Rattle.coded_machine.specs.declared.cycle_end.CycleEnd.{CycleEnd}
use Rattle.coded_machine.specs.State.{State}
use Rattle.run_report.specs.SummaryLine.{summary_text}
use Rattle.program_maker.specs.MadeRows.{made_rows}
use Rattle.program_maker.specs.MadeSource.{made_source}
use Rattle.vcp_inputs.specs.Forms.{default_code}
use Rattle.input_rows.specs.declared.source.RowsSource.TheVariants as origin
use Rattle.vcp_inputs.specs.RowsOutcome.{source_outcome}
use Rattle.vcp_inputs.specs.Abouts.{made_name}
use Rattle.vcp_inputs.specs.Answer.{source}
use Rattle.vcp_inputs.specs.FileTasks.{TypedFile, OnRows}
use Rattle.vcp_inputs.specs.Kinds.{Task, runs}
use Rattle.vcp_inputs.specs.Printing.{Printing, last_line, no_words}
use Rattle.vcp_inputs.specs.Reports.{RunEnd, end_read}
use Rattle.vcp_inputs.specs.RunKind.{Job}

-- ---- what is summed up of a run: the first output in its rows

-- the value of the first output in a row; 0 where there is none
abbrev pub first_value : List ℤ → ℤ
first_value [] = pos 0
first_value (value ∷ row) = value

-- that in the last row; 0 where there is none
abbrev pub last_value : List (List ℤ) → ℤ
last_value [] = pos 0
last_value (row ∷ []) = first_value row
last_value (row ∷ next ∷ rows) = last_value (next ∷ rows)

-- the sum of those in all rows
abbrev pub sum_of : List (List ℤ) → ℤ
sum_of [] = pos 0
sum_of (row ∷ rows) = first_value row +ℤ sum_of rows

-- the line that sums up the run of the made program of a number
abbrev pub summed_up : ℕ → Printing
summed_up number =
    record { header = []; row = λ cycle row. []; lines = λ words. []; done = λ rows. summary_text number (length rows) (last_value rows) (sum_of rows) }

-- ---- the task

-- the made source, under any name
abbrev pub made_held : ℕ → Held
made_held number = λ name. Some (made_source number)

-- the run of a program of which that line is printed
abbrev pub summary_job : ℕ → Program → RowsLeft → Job
summary_job number p left =
    record { subject = source p; rows = left; rows_name = made_name; code = default_code; printing = summed_up number; words = no_words }

-- The words `demo N` lead to the refusals of the made source of N, told as `demo`, where it has one, or to
-- those of the made rows; else to a run on the unit of its checked program over the made rows, as `run` runs
-- it with no words of a code, of which the summary is printed: the number of cycles, the last value of the
-- first output and the sum of all. Where the run ends early its last line stands in the summary's place.
-- the made source of a number, on its made rows; no file is read
abbrev pub DemoTask : ℕ → Task → Type 0
DemoTask number task =
    TypedFile
    (λ t. OnRows made_name (λ left x. x ≡ runs (summary_job number t left)) (source_outcome (origin.File (made_rows number)) (input_columns t.slots)))
    made_name (made_held number) task

-- ---- what is kept and printed of the machine's run

-- numbers are the last value and the sum of these rows, and that is no greater than as many numbers of 64 bits
pub record AreSums (last sum : ℤ) (rows : List (List ℤ)) : Type 0 where
  pub last_is : last ≡ last_value rows
  pub sum_is : sum ≡ sum_of rows
  pub size : unsigned_abs sum ≤ 2 ^ 63 * length rows

-- they are, unless there are more rows than a run may have cycles
abbrev pub KeepsSums : ℤ → ℤ → List (List ℤ) → Type 0
KeepsSums last sum rows = length rows ≤ most_cycles → AreSums last sum rows

-- the last line of a made program's run of so many cycles: its summary, with the last value of its output and the sum of all, where it came
-- to the end of its rows
abbrev pub summary_then : ℕ → List (List ℕ) → ℕ → ℤ → ℤ → RunEnd → Option RowFault → List ℕ
summary_then number names n last sum e behind = last_line [] (summary_text number n last sum) names n e behind

-- what is printed of a machine's run that came to this end, with outputs of these names
abbrev pub summed_text : State → List (List ℕ) → ℕ → ℤ → ℤ → CycleEnd → List ℕ
summed_text m names number last sum e = summary_then number names m.cycles last sum (end_read m.graph e) None
