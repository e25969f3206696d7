-- MachineRun: how far the run of a job came on the machine.
use Rattle.std.specs.Prelude.{ℕ, ◌≡◌, ◌≢◌, ◌<◌, ◌⊎◌, List, [], ◌++◌, length, map, None, Result, Ok, Err}
use Rattle.std.specs.Io.KnownBytes.{Appends}
use Rattle.vcp_base.specs.Stops.{ToldStop}
use Rattle.vcp_outside.specs.Counts.{Rose}
use Rattle.vcp_outside.specs.Seen.{SinkSeen}
use Rattle.vcp_outside.specs.Written.{AppendsFront, AppendsPart}
use Rattle.vcp_outside.specs.declared.failed.Failed.{Failed}
use Rattle.input_rows.specs.RowsOf.{RowsLeft}
use Rattle.op_graph.specs.Lists.{Lists, output_column}
use Rattle.signature_table.specs.Signatures.{Numbers, table_of}
use Rattle.flat_expr.specs.Told.{told_graph, told_source}
use Rattle.vcp_typed.specs.SourceRun.{Program}
use Rattle.vcp_inputs.specs.Forms.{Code}
use Rattle.run_report.specs.Lines.{stop_text}
use Rattle.coded_machine.specs.declared.cycle_end.CycleEnd.{CycleEnd}
use Rattle.coded_machine.specs.declared.cycle_end.CycleEnd.TheVariants as cycle
use Rattle.coded_machine.specs.declared.rows.fault.RunFault.{RunFault}
use Rattle.coded_machine.specs.declared.rows.fault.RunFault.TheVariants as run
use Rattle.vcp_inputs.specs.Lines.{input_status, input_text}
use Rattle.vcp_inputs.specs.Refusals.{no_rows}
use Rattle.vcp_inputs.specs.Answer.{Answer, Subject}
use Rattle.vcp_inputs.specs.GraphsOf.{MayRun, StandsFor}
use Rattle.vcp_inputs.specs.Seen.{Still}
use Rattle.vcp_inputs.specs.Reports.{end_read, output_names, subject_outputs, run_status, told_of}
use Rattle.vcp_inputs.specs.RunKind.{Job, RunDone, RunLeft}
use Rattle.coded_machine.specs.Moments.{Moment}
use Rattle.coded_machine.specs.Stops.{TellsSomeStop}
use Rattle.vcp_core.specs.declared.ending.Ending.{Ending}
use Rattle.vcp_core.specs.declared.ending.Ending.TheVariants as end
use Rattle.vcp_core.specs.Reach.{end_status}

-- To run a graph with this table on the rows that are left is to run this with the numbers of a code: the graph may be run, the
-- table is its own in that code, its outputs have the names, and on these rows its run on plain integers is told as the one meant.
pub record CarriesOut (g : Lists) (t : Numbers) (left : RowsLeft) (s : Subject) (code : Code) : Type 0 where
  pub may : MayRun s g
  pub numbers : t ≡ table_of code.seed code.step g
  pub names : map (λ c. c.name) (map (output_column g.names) g.outputs) ≡ subject_outputs s
  pub told : told_graph g left.rows ≡ told_of s left.rows

-- To run this program on the rows that are left is to run this: any graph that stands for the program may be run, the outputs have the names, and on
-- these rows the program's run is told as the one meant.
pub record StandsAs (p : Program) (left : RowsLeft) (s : Subject) : Type 0 where
  pub may : (g : Lists) → StandsFor p g → MayRun s g
  pub names : output_names p ≡ subject_outputs s
  pub told : told_source p left.rows ≡ told_of s left.rows

-- a run of a job was done, and all of its answer's output was written; the answer has this line and this status
abbrev pub RunAnswers : Job → List ℕ → ℕ → Moment → Moment → Type 0
RunAnswers j line status before after =
    (x : Answer) × RunDone j before.unit after.unit x × Appends before.out.written after.out.written x.out × (x.err ≡ line) × (x.status ≡ status)

-- How far the run of a job came: to its end; to a row that is refused; or until writing failed, or memory was wanted, before it began or in
-- it.
abbrev pub RunsTo : Job → Moment → Moment → Result Ending RunFault → Type 0
RunsTo j before after (Ok e) = RunAnswers j [] (end_status e) before after
RunsTo j before after (Err (run.Rows f)) = RunAnswers j (input_text j.rows_name (no_rows f)) (input_status (no_rows f)) before after
RunsTo j before after (Err run.Write) = RunLeft j AppendsPart before after
RunsTo j before after (Err run.Memory) = Still before after ⊎ RunLeft j AppendsFront before after

-- the operation that stopped is there, and so is the output that is refused
abbrev pub IsThere : Lists → CycleEnd → Type 0
IsThere g cycle.Released = Unit {0}
IsThere g (cycle.Stopped k why) = k < length g.operations
IsThere g (cycle.Refused output found wanted) = output < length g.outputs

-- what is printed last of a run that stopped so in cycle n ends with the line of a stop of this kind in that cycle; of other ends nothing is said
abbrev pub EndsAtStop : List ℕ → ℕ → CycleEnd → Type 0
EndsAtStop text n cycle.Released = Unit {0}
EndsAtStop text n (cycle.Stopped k why) = (front : List ℕ) × (told : ToldStop) × (told.kind ≡ why) × (text ≡ front ++ stop_text n told)
EndsAtStop text n (cycle.Refused output found wanted) = Unit {0}

-- this was printed last of a graph's run of n released cycles that ended so; or a part of it, where the sink failed
abbrev pub PrintsLast : List ℕ → ℕ → Lists → CycleEnd → SinkSeen → SinkSeen → Result Ending Failed → Type 0
PrintsLast text n g e before after (Ok end) =
    Appends before.written after.written text × (end_status end ≡ run_status (end_read g e) None) × (after.faults ≡ before.faults) × EndsAtStop text n e
PrintsLast text n g e before after (Err why) = Rose before.faults after.faults × AppendsPart before.written after.written text

-- a run that ended so had cause: a write failed, which comes to nothing else, an answer was wrong, or the log grew to the stop that is told
pub record HasCauses (before after : Moment) (result : Result Ending RunFault) : Type 0 where
  pub write : result ≡ Err run.Write → Rose before.out.faults after.out.faults
  pub refused : result ≡ Ok end.Refused → Rose before.unit.wrong after.unit.wrong
  pub stopped : result ≡ Ok end.Stopped → TellsSomeStop stop_text before after
  pub stayed : result ≢ Err run.Write → after.out.faults ≡ before.out.faults
