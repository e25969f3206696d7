-- PairRows: what running a pair over the rows that are left leaves, on any two units, before the last line.
use Rattle.std.specs.Prelude.{ℕ, ◌≡◌, ◌≢◌, ◌≤◌, List, [], ◌++◌, length, None, Some, ℤ, Result, Ok, Err}
use Rattle.std.specs.Io.KnownBytes.{Appends}
use Rattle.vcp_outside.specs.Counts.{Rose}
use Rattle.vcp_outside.specs.Seen.{SinkSeen}
use Rattle.vcp_outside.specs.Written.{AppendsPart}
use Rattle.vcp_outside.specs.declared.failed.Failed.{Failed}
use Rattle.input_rows.specs.RowsOf.{RowsLeft}
use Rattle.coded_unit.specs.declared.call.Answer.{Answer}
use Rattle.op_graph.specs.Lists.{Lists}
use Rattle.signature_table.specs.Signatures.{Numbers}
use Rattle.run_report.specs.Lines.{row_text}
use Rattle.coded_machine.specs.RowRuns.{EarlierPrinted, texts_from}
use Rattle.coded_machine.specs.declared.rows.fault.RunFault.{RunFault}
use Rattle.coded_machine.specs.declared.rows.fault.RunFault.TheVariants as fault
use Rattle.pair_channel.specs.declared.pair_end.PairEnd.{PairEnd}
use Rattle.pair_channel.specs.declared.pair_end.PairEnd.TheVariants as pair
use Rattle.pair_channel.specs.PairRuns.{PairOver}
use Rattle.pair_channel.specs.PairMoments.{PairMoment}

-- a cycle's end; where its row couldn't be written, it was released
abbrev pub cycle_end : Result PairEnd Failed → PairEnd
cycle_end (Ok e) = e
cycle_end (Err _) = pair.Released

-- How a pair's run over the rows that are left ended, of which `more` weren't taken, where the first channel's cycles had these answers, these
-- rows of outputs were released and the last cycle ended so.
abbrev pub RowsEnd : Lists → RowsLeft → List (List ℤ) → List (List Answer) → List (List ℤ) → PairEnd → SinkSeen → SinkSeen → Result PairEnd RunFault
    → Type 0
RowsEnd g left more ours outputs e before after (Ok f) =
    (more ≡ []) × (e ≡ f) × (f ≡ pair.Released → left.refusal ≡ None) × Appends before.written after.written (texts_from row_text 0 outputs)
RowsEnd g left more ours outputs e before after (Err (fault.Rows why)) =
    (more ≡ []) × (e ≡ pair.Released) × (left.refusal ≡ Some why) × Appends before.written after.written (texts_from row_text 0 outputs)
RowsEnd g left more ours outputs e before after (Err fault.Write) =
    (e ≡ pair.Released) × Rose before.faults after.faults × AppendsPart before.written after.written (texts_from row_text 0 outputs)
    × EarlierPrinted g [] row_text ours before.written after.written
RowsEnd g left more ours outputs e before after (Err fault.Memory) =
    (e ≡ pair.Released) × Appends before.written after.written (texts_from row_text 0 outputs)

-- What running a pair over the rows that are left leaves: it took the first of them, each log grew by the calls of its channel's cycles with
-- the unit's answers and by nothing else, and the rows that were written and the end are read off these answers.
pub record PairRows (g : Lists) (t u : Numbers) (left : RowsLeft) (before after : PairMoment) (cycles : ℕ) (result : Result PairEnd RunFault) : Type 0 where
  pub taken : List (List ℤ)
  pub more : List (List ℤ)
  pub rows_are : left.rows ≡ taken ++ more
  pub ours : List (List Answer)
  pub theirs : List (List Answer)
  pub outputs : List (List ℤ)
  pub end : PairEnd
  pub over : PairOver g t u taken ours theirs outputs end before.first after.first before.second after.second
  pub count : cycles ≡ length outputs
  pub ends : RowsEnd g left more ours outputs end before.out after.out result
  pub faults : before.out.faults ≤ after.out.faults
  pub stayed : result ≢ Err fault.Write → after.out.faults ≡ before.out.faults
