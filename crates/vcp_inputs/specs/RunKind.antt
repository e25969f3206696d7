-- RunKind: runs on a unit: what holds after a whole one, and what holds where it was cut off.
-- The graph that is run, or whose image is written, means the program, and so has the code that its types
-- want, and has at most as many operations as its Size, and no pass leaves less of it: nothing is left to
-- fold, to join or to leave out. In `exec`, `trace`, `inject`, `pair` and `pairs` it is that of the image.
-- The answers of a run are those of a whole one: one cycle for each row up to the first that ends the run, in
-- each cycle an answer to each operation up to the first that is no word, and none after it.
-- With a kept log: it grew by exactly the calls of that graph in these cycles, with the table of the seed and
-- step and with these answers; without a run, a wire or faults to be judged it stayed as it was. For `inject`
-- it grew by the calls of the run without faults, and then, group by group, by those of the rerun off whose
-- answers the verdict is read; or, where memory was lacking for the run without faults, by none, and then
-- nothing was written.
-- What `trace` prints are, in order, the words among the answers to the calls of its cycle, each with its
-- value, its residue and the residue that is expected, and then `released` or the line of the run's end;
-- where an earlier cycle ended the run, that line alone, and where a row is refused before, nothing.
-- Where all answers in the first cycles of a run are right, the rows that these released are the first of the
-- run that is meant, whatever was answered later: so are the rows of all cycles before the one in which the
-- first wrong answer came.
-- Where no answer was wrong, the run that the answers give is the meaning of the program; in `il` the run of
-- the instruction list on the accumulator; in `exec` and `trace` the run of the image's graph on plain
-- integers; and each word of `trace` has the value of its operation in that run, and the expected residue.
use Rattle.std.specs.Prelude.{ℕ, ℤ, ◌≡◌, List, ◌++◌, length}
use Rattle.input_rows.specs.RowsOf.{RowsLeft}
use Rattle.coded_unit.specs.declared.call.Answer.{Answer as UnitAnswer}
use Rattle.coded_unit.specs.Log.{Entry, GrowsBy}
use Rattle.op_graph.specs.Lists.{Lists}
use Rattle.signature_table.specs.Signatures.{Numbers, table_of}
use Rattle.coded_machine.specs.Calls.{AllRight}
use Rattle.coded_machine.specs.CycleEnds.{initial_words}
use Rattle.coded_machine.specs.Runs.{AllCycles, calls_over, outcome_over}
use Rattle.coded_machine.specs.RowRuns.{EarlierPrinted, SomeCycles}
use Rattle.vcp_inputs.specs.Forms.{Code}
use Rattle.vcp_inputs.specs.Answer.{Answer, Subject}
use Rattle.vcp_inputs.specs.GraphsOf.{MayRun}
use Rattle.vcp_inputs.specs.Reports.{end_read, end_told, subject_outputs, told_of}
use Rattle.vcp_inputs.specs.Printing.{Report, ShownWords, Printing, no_report, run_then, told_answer}
use Rattle.coded_unit.specs.Seen.{UnitSeen, StaysHonest}
use Rattle.coded_machine.specs.Moments.{Moment}
use Rattle.vcp_inputs.specs.Seen.{Appending}

-- A run on a unit: of what, the rows of its inputs with the refusal behind them, the name by which lines tell ROWS, the numbers of its
-- code, what is printed of it, and which words are shown.
pub record Job : Type 0 where
  pub subject : Subject
  pub rows : RowsLeft
  pub rows_name : List ℕ
  pub code : Code
  pub printing : Printing
  pub words : ShownWords

-- the numbers of a job's code, for a graph
abbrev pub numbers : Job → Lists → Numbers
numbers j g = table_of j.code.seed j.code.step g

-- the calls of a run in cycles with these answers, cycle after cycle
abbrev pub calls_of : Job → Lists → List (List UnitAnswer) → List Entry
calls_of j g cycles = calls_over g (numbers j g) 0 (initial_words g j.code.seed) j.rows.rows cycles

-- the run that is read off the unit's answers
abbrev pub run_read : Job → Lists → List (List UnitAnswer) → Report
run_read j g cycles =
    let o = outcome_over g (numbers j g) 0 cycles in record { rows = o.rows; end = end_read g o.end; words = j.words.read cycles }

-- the run that is meant: the subject's own, on plain values
abbrev pub run_meant : Job → Report
run_meant j =
    let told = told_of j.subject j.rows.rows in record { rows = told.rows; end = end_told told.end; words = j.words.meant j.rows.rows }

-- the answer to a job whose run is told so
abbrev pub job_answer : Job → Report → Answer
job_answer j r = told_answer j.printing (subject_outputs j.subject) j.rows_name j.rows r

-- the answer that a job means: that to its subject's own run
abbrev pub meant_answer : Job → Answer
meant_answer j = job_answer j (run_meant j)

-- where all answers in the first of these cycles are right, the rows that these released are the first of the run that is meant
abbrev pub FirstAsMeant : Job → Lists → List (List UnitAnswer) → Type 0
FirstAsMeant j g cycles =
    (first rest : List (List UnitAnswer)) → cycles ≡ first ++ rest → AllRight (calls_of j g first) →
    (later : List (List ℤ)) × ((run_meant j).rows ≡ (run_read j g first).rows ++ later)

-- A whole run: some graph that may be run for the subject, and a cycle for each row up to the first that is not released. Where the log is
-- told, it grew by the calls of these cycles with the answers that the unit gave, and by nothing else; where it is not, these are some
-- answers of that form. What is answered is read off them; the rows before the first wrong answer are those that are meant; and where no answer
-- was wrong, the run is the one that is meant.
pub record RunDone (j : Job) (before after : UnitSeen) (x : Answer) : Type 0 where
  pub graph : Lists
  pub cycles : List (List UnitAnswer)
  pub may : MayRun j.subject graph
  pub all : AllCycles graph (numbers j graph) 0 j.rows.rows cycles
  pub log : GrowsBy before.log after.log (calls_of j graph cycles)
  pub read : x ≡ job_answer j (run_read j graph cycles)
  pub front : FirstAsMeant j graph cycles
  pub honest : StaysHonest before after → run_read j graph cycles ≡ run_meant j

-- ---- a run that was cut off

-- a run that may come after these cycles: any at all, and none where all rows were taken
abbrev pub MayFollow : Job → List (List UnitAnswer) → Report → Type 0
MayFollow j cycles later = length cycles ≡ length j.rows.rows → later ≡ no_report

-- A run that was cut off between two of its cycles, where `Writes` says how much was written: so much of what is printed of it, whatever
-- would have come later, with all that stands before the last cycle. The unit was asked nothing more than these cycles' calls. The rows before
-- the first wrong answer are those that are meant; and where no answer was wrong, it is so much of what is printed of the run that is meant.
pub record RunLeft (j : Job) (Writes : Appending) (before after : Moment) : Type 0 where
  pub graph : Lists
  pub cycles : List (List UnitAnswer)
  pub may : MayRun j.subject graph
  pub some : SomeCycles graph (numbers j graph) 0 j.rows.rows cycles
  pub log : GrowsBy before.unit.log after.unit.log (calls_of j graph cycles)
  pub text : (later : Report) → MayFollow j cycles later
      → Writes before.out.written after.out.written (job_answer j (run_then (run_read j graph cycles) later)).out
  pub earlier : EarlierPrinted graph j.printing.header j.printing.row cycles before.out.written after.out.written
  pub front : FirstAsMeant j graph cycles
  pub honest : StaysHonest before.unit after.unit → Writes before.out.written after.out.written (meant_answer j).out
