-- PairDone: what holds after a pair's run, and where it was cut off.
use Rattle.std.specs.Prelude.{ℕ, ◌≡◌, ◌<◌, ◌⊎◌, List, [], ◌++◌, length, Option, None, Some, Result, Ok, Err, ℤ}
use Rattle.std.specs.Io.KnownBytes.{Appends}
use Rattle.vcp_outside.specs.Counts.{Rose}
use Rattle.vcp_outside.specs.Written.{AppendsFront, AppendsPart}
use Rattle.input_rows.specs.RowsOf.{RowsLeft}
use Rattle.coded_unit.specs.declared.call.Answer.{Answer}
use Rattle.op_graph.specs.Lists.{Lists}
use Rattle.op_graph.specs.GraphRun.{graph_run}
use Rattle.signature_table.specs.Signatures.{Numbers}
use Rattle.coded_machine.specs.declared.cycle_end.CycleEnd.{CycleEnd}
use Rattle.coded_machine.specs.declared.cycle_end.CycleEnd.TheVariants as end
use Rattle.run_report.specs.Lines.{row_text}
use Rattle.coded_machine.specs.RowRuns.{EarlierPrinted}
use Rattle.coded_machine.specs.declared.rows.fault.RunFault.{RunFault}
use Rattle.coded_machine.specs.declared.rows.fault.RunFault.TheVariants as fault
use Rattle.pair_channel.specs.declared.pair_end.PairEnd.{PairEnd}
use Rattle.pair_channel.specs.declared.pair_end.PairEnd.TheVariants as pair
use Rattle.pair_channel.specs.PairRuns.{PairOutcome, PairOver, FrontOfRun, Disagrees}
use Rattle.coded_unit.specs.Seen.{StaysHonest}
use Rattle.pair_channel.specs.PairLines.{pair_header, pair_text}
use Rattle.pair_channel.specs.PairMoments.{PairMoment}

-- an output that is refused is one of the graph's
abbrev pub IsNumbered : Lists → CycleEnd → Type 0
IsNumbered g (end.Refused output found wanted) = output < length g.outputs
IsNumbered g e = Unit {0}

-- the operation that stopped is one of the graph's, and so is the output that is refused or differs
abbrev pub PairIsThere : Lists → PairEnd → Type 0
PairIsThere g pair.Released = Unit {0}
PairIsThere g (pair.Stopped op why) = op < length g.operations
PairIsThere g (pair.Parted first second) = IsNumbered g first × IsNumbered g second
PairIsThere g (pair.Differ output first second) = output < length g.outputs

-- no answer of one of the channels was wrong, whichever it is
abbrev pub OneStaysHonest : PairMoment → PairMoment → Type 0
OneStaysHonest before after = StaysHonest before.first after.first ⊎ StaysHonest before.second after.second

-- these are the first rows of the graph's run on plain integers over these rows of inputs
abbrev pub AreFirst : Lists → List (List ℤ) → List (List ℤ) → Type 0
AreFirst g rows outputs = (later : List (List ℤ)) × ((graph_run g rows).rows ≡ outputs ++ later)

-- A whole run of a pair: each log grew by the calls of its channel's cycles with the answers of its unit and by nothing else; what was
-- written is read off these answers. Whichever unit answers right, the rows are the first of the graph's run, and a stop is its stop; and the
-- channels disagree only where the count of one of the units rose.
pub record PairDone (g : Lists) (t u : Numbers) (left : RowsLeft) (before after : PairMoment) (e : PairEnd) : Type 0 where
  pub ours : List (List Answer)
  pub theirs : List (List Answer)
  pub outputs : List (List ℤ)
  pub over : PairOver g t u left.rows ours theirs outputs e before.first after.first before.second after.second
  pub written : Appends before.out.written after.out.written (pair_text g (record { rows = outputs; end = e }) left.refusal)
  pub front : OneStaysHonest before after → FrontOfRun (record { rows = outputs; end = e }) (graph_run g left.rows)
  pub rose : Disagrees e → Rose before.first.wrong after.first.wrong ⊎ Rose before.second.wrong after.second.wrong

-- ---- a run that was cut off

-- an outcome, and then a later one, unless the first ended otherwise than by a release
abbrev pub goes_on : PairEnd → PairOutcome → PairOutcome → PairOutcome
goes_on pair.Released o later = record { rows = o.rows ++ later.rows; end = later.end }
goes_on e o later = o

abbrev pub outcome_then : PairOutcome → PairOutcome → PairOutcome
outcome_then o later = goes_on o.end o later

-- no row more
abbrev pub nothing_later : PairOutcome
nothing_later = record { rows = []; end = pair.Released }

-- A run of a pair that was cut off between two of its cycles, when `more` of its rows weren't taken: `Writes` says how much was written of
-- what is printed of it, whatever would have come later, with all that stands before the last cycle. The units were asked nothing more than
-- these cycles' calls.
pub record PairLeft (g : Lists) (t u : Numbers) (left : RowsLeft) (Writes : Option (List ℕ) → Option (List ℕ) → List ℕ → Type 0)
    (before after : PairMoment) : Type 0 where
  pub taken : List (List ℤ)
  pub more : List (List ℤ)
  pub rows_are : left.rows ≡ taken ++ more
  pub ours : List (List Answer)
  pub theirs : List (List Answer)
  pub outputs : List (List ℤ)
  pub end : PairEnd
  pub over : PairOver g t u taken ours theirs outputs end before.first after.first before.second after.second
  pub text : (later : PairOutcome) → (more ≡ [] → later ≡ nothing_later)
      → Writes before.out.written after.out.written (pair_text g (outcome_then (record { rows = outputs; end = end }) later) left.refusal)
  pub earlier : EarlierPrinted g (pair_header g) row_text ours before.out.written after.out.written
  pub front : OneStaysHonest before after → AreFirst g left.rows outputs

-- How far a pair's run came: to its end; to a row that is refused; or until writing failed, or memory was wanted, before it began or in it.
abbrev pub PairRunsTo : Lists → Numbers → Numbers → RowsLeft → PairMoment → PairMoment → Result PairEnd RunFault → Type 0
PairRunsTo g t u left before after (Ok e) = PairDone g t u left before after e × (e ≡ pair.Released → left.refusal ≡ None)
PairRunsTo g t u left before after (Err (fault.Rows why)) = PairDone g t u left before after pair.Released × (left.refusal ≡ Some why)
PairRunsTo g t u left before after (Err fault.Write) = PairLeft g t u left AppendsPart before after × Rose before.out.faults after.out.faults
PairRunsTo g t u left before after (Err fault.Memory) = PairLeft g t u left AppendsFront before after
