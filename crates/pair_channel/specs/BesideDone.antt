-- BesideDone: a pair's run whose second channel is on the processor itself: what holds after it, and where it was cut off, read off the first
-- channel's answers alone.
use Rattle.std.specs.Prelude.{ℕ, ◌≡◌, List, [], ◌++◌, Option, None, Some, Result, Ok, Err, ℤ}
use Rattle.std.specs.Io.KnownBytes.{Appends}
use Rattle.vcp_outside.specs.Counts.{Rose}
use Rattle.vcp_outside.specs.Written.{AppendsFront, AppendsPart}
use Rattle.input_rows.specs.RowsOf.{RowsLeft}
use Rattle.coded_unit.specs.Log.{Entry, GrowsBy}
use Rattle.coded_unit.specs.declared.call.Answer.{Answer}
use Rattle.op_graph.specs.Lists.{Lists}
use Rattle.op_graph.specs.GraphRun.{graph_run, initial}
use Rattle.signature_table.specs.Signatures.{Numbers}
use Rattle.coded_machine.specs.CycleEnds.{initial_words}
use Rattle.coded_machine.specs.Runs.{calls_over}
use Rattle.run_report.specs.Lines.{row_text}
use Rattle.coded_machine.specs.Moments.{Moment}
use Rattle.coded_machine.specs.RowRuns.{EarlierPrinted}
use Rattle.coded_machine.specs.declared.rows.fault.RunFault.{RunFault}
use Rattle.coded_machine.specs.declared.rows.fault.RunFault.TheVariants as fault
use Rattle.pair_channel.specs.declared.pair_end.PairEnd.{PairEnd}
use Rattle.pair_channel.specs.declared.pair_end.PairEnd.TheVariants as pair
use Rattle.pair_channel.specs.Beside.{AllBeside, beside}
use Rattle.pair_channel.specs.PairRuns.{PairOutcome, FrontOfRun, Disagrees, pair_outcome_for}
use Rattle.coded_unit.specs.Seen.{StaysHonest}
use Rattle.pair_channel.specs.PairDone.{AreFirst, nothing_later, outcome_then}
use Rattle.pair_channel.specs.PairLines.{pair_header, pair_text}

-- the calls of the first channel over these rows, in cycles with these answers
abbrev pub beside_calls : Lists → Numbers → List (List ℤ) → List (List Answer) → List Entry
beside_calls g t rows cycles = calls_over g t 0 (initial_words g t.seed) rows cycles

-- the outcome that is read off these answers
abbrev pub beside_read : Lists → Numbers → List (List ℤ) → List (List Answer) → PairOutcome
beside_read g t rows cycles = beside g t 0 (initial g) rows cycles

-- A whole run: a cycle of the first channel for each row up to the first that isn't released. Where the unit's log is told, it grew by the calls
-- of these cycles with the answers that the unit gave, and by nothing else; where it is not, these are some answers of that form. What was
-- written and the end are read off them. Whatever the unit answered, the rows are the first of the graph's run and a stop is its stop; the
-- channels disagree only where the unit's count rose; and where no answer was wrong, the outcome is the graph's run.
pub record BesideDone (g : Lists) (t : Numbers) (left : RowsLeft) (before after : Moment) (e : PairEnd) : Type 0 where
  pub cycles : List (List Answer)
  pub all : AllBeside g t 0 (initial g) left.rows cycles
  pub log : GrowsBy before.unit.log after.unit.log (beside_calls g t left.rows cycles)
  pub end_is : e ≡ (beside_read g t left.rows cycles).end
  pub written : Appends before.out.written after.out.written (pair_text g (beside_read g t left.rows cycles) left.refusal)
  pub front : FrontOfRun (beside_read g t left.rows cycles) (graph_run g left.rows)
  pub rose : Disagrees e → Rose before.unit.wrong after.unit.wrong
  pub honest : StaysHonest before.unit after.unit → beside_read g t left.rows cycles ≡ pair_outcome_for (graph_run g left.rows)

-- A run that was cut off between two of its cycles, when `more` of its rows weren't taken: `Writes` says how much was written of what is
-- printed of it, whatever would have come later, with all that stands before the last cycle. The unit was asked nothing more than these
-- cycles' calls. Where no answer was wrong, it is so much of what is printed of the graph's run.
pub record BesideLeft (g : Lists) (t : Numbers) (left : RowsLeft) (Writes : Option (List ℕ) → Option (List ℕ) → List ℕ → Type 0) (before after : Moment)
    : Type 0 where
  pub taken : List (List ℤ)
  pub more : List (List ℤ)
  pub rows_are : left.rows ≡ taken ++ more
  pub cycles : List (List Answer)
  pub all : AllBeside g t 0 (initial g) taken cycles
  pub log : GrowsBy before.unit.log after.unit.log (beside_calls g t taken cycles)
  pub text : (later : PairOutcome) → (more ≡ [] → later ≡ nothing_later)
      → Writes before.out.written after.out.written (pair_text g (outcome_then (beside_read g t taken cycles) later) left.refusal)
  pub earlier : EarlierPrinted g (pair_header g) row_text cycles before.out.written after.out.written
  pub front : AreFirst g left.rows (beside_read g t taken cycles).rows
  pub honest : StaysHonest before.unit after.unit
      → Writes before.out.written after.out.written (pair_text g (pair_outcome_for (graph_run g left.rows)) left.refusal)

-- How far the run came: to its end; to a row that is refused; or until writing failed, or memory was wanted, before it began or in it.
abbrev pub BesideRunsTo : Lists → Numbers → RowsLeft → Moment → Moment → Result PairEnd RunFault → Type 0
BesideRunsTo g t left before after (Ok e) = BesideDone g t left before after e × (e ≡ pair.Released → left.refusal ≡ None)
BesideRunsTo g t left before after (Err (fault.Rows why)) = BesideDone g t left before after pair.Released × (left.refusal ≡ Some why)
BesideRunsTo g t left before after (Err fault.Write) = BesideLeft g t left AppendsPart before after × Rose before.out.faults after.out.faults
BesideRunsTo g t left before after (Err fault.Memory) = BesideLeft g t left AppendsFront before after
