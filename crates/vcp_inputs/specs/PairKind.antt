-- PairKind: a run of two channels that are compared, and what holds after a whole one; what holds where it was cut off, `pair_channel` says.
-- Whatever the unit answers in `pair`: the rows that are written are the first of the graph's run on plain
-- integers, all of them where the status is 0 or 2, and a stop is that run's stop; status 3 comes only where
-- the unit's count of wrong answers rose.
-- What `pair` writes and its status are read off the answers that the unit gave, cycle by cycle: the first
-- channel's end is the one that they give, the second's and its row are those of the graph's cycle on plain
-- integers, and the pair's end is the defined one of the two. A kept log grew by exactly the calls of the
-- first channel's cycles with these answers, one cycle for each row up to the first that isn't released.
-- Where no answer was wrong, `pair` gives the run of the image's graph on plain integers; of a run that
-- was cut off, a part of what is printed of that is there.
use Rattle.std.specs.Prelude.{ℕ, ◌≡◌, List, [], Option, Some, None}
use Rattle.vcp_outside.specs.Counts.{Rose}
use Rattle.input_rows.specs.declared.fault.RowFault.{RowFault}
use Rattle.input_rows.specs.RowsOf.{RowsLeft}
use Rattle.coded_unit.specs.declared.call.Answer.{Answer as UnitAnswer}
use Rattle.coded_unit.specs.Log.{GrowsBy}
use Rattle.coded_unit.specs.Seen.{UnitSeen, StaysHonest}
use Rattle.op_graph.specs.Lists.{Lists}
use Rattle.op_graph.specs.GraphRun.{graph_run, initial}
use Rattle.signature_table.specs.Signatures.{Numbers}
use Rattle.pair_channel.specs.declared.pair_end.PairEnd.{PairEnd}
use Rattle.pair_channel.specs.declared.pair_end.PairEnd.TheVariants as pair
use Rattle.pair_channel.specs.Beside.{AllBeside}
use Rattle.pair_channel.specs.PairRuns.{PairOutcome, FrontOfRun, pair_outcome_for}
use Rattle.pair_channel.specs.BesideDone.{beside_calls, beside_read}
use Rattle.pair_channel.specs.PairLines.{pair_text}
use Rattle.vcp_inputs.specs.Answer.{Answer}
use Rattle.vcp_inputs.specs.Reports.{line_and_status}

-- A run of two channels: of which graph, with which table of the first channel, on which rows of inputs with the refusal behind them, and the
-- name by which lines tell ROWS. Of the second channel, which is on the processor itself, nothing shows by its own table.
pub record PairJob : Type 0 where
  pub graph : Lists
  pub table : Numbers
  pub rows : RowsLeft
  pub rows_name : List ℕ

-- the status of a run of two channels that didn't come to the end of its rows: no value is accepted where they disagree
abbrev pub pair_early_status : PairEnd → Option ℕ
pair_early_status pair.Released = None
pair_early_status (pair.Stopped op why) = Some 2
pair_early_status (pair.Parted first second) = Some 3
pair_early_status (pair.Differ output first second) = Some 3

-- the line of the row that is refused behind the others, and the status
abbrev pub pair_behind : List ℕ → PairEnd → Option RowFault → List ℕ
pair_behind name e behind = (line_and_status name (pair_early_status e) behind).0

abbrev pub pair_status : PairEnd → Option RowFault → ℕ
pair_status e behind = (line_and_status [] (pair_early_status e) behind).1

-- the answer where a run of two channels comes to this
abbrev pub pair_answer : PairJob → PairOutcome → Answer
pair_answer j o =
    record { out = pair_text j.graph o j.rows.refusal; err = pair_behind j.rows_name o.end j.rows.refusal; status = pair_status o.end j.rows.refusal }

-- the outcome that is read off the first channel's answers
abbrev pub pair_read : PairJob → List (List UnitAnswer) → PairOutcome
pair_read j cycles = beside_read j.graph j.table j.rows.rows cycles

-- the outcome that is meant: the graph's run on plain integers, with which both channels agree
abbrev pub pair_meant : PairJob → PairOutcome
pair_meant j = pair_outcome_for (graph_run j.graph j.rows.rows)

-- A whole run: a cycle of the first channel for each row up to the first that isn't released. Where the log is told, it grew by the calls of
-- these cycles with the answers that the unit gave, and by nothing else; where it is not, these are some answers of that form. What is answered
-- is read off them, with the graph's run on plain integers in the second channel's place. Whatever the unit answers, the rows are the first of
-- the graph's run, and a stop is its stop; the channels disagree only where the unit's count rose; and where no answer was wrong, the outcome
-- is the one that is meant.
pub record PairJobDone (j : PairJob) (before after : UnitSeen) (x : Answer) : Type 0 where
  pub cycles : List (List UnitAnswer)
  pub all : AllBeside j.graph j.table 0 (initial j.graph) j.rows.rows cycles
  pub log : GrowsBy before.log after.log (beside_calls j.graph j.table j.rows.rows cycles)
  pub read : x ≡ pair_answer j (pair_read j cycles)
  pub front : FrontOfRun (pair_read j cycles) (graph_run j.graph j.rows.rows)
  pub rose : x.status ≡ 3 → Rose before.wrong after.wrong
  pub honest : StaysHonest before after → pair_read j cycles ≡ pair_meant j
