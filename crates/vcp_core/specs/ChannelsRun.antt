-- ChannelsRun: how far the run of two channels came.
use Rattle.std.specs.Prelude.{ℕ, ◌≡◌, ◌⊎◌, List, [], Result, Ok, Err}
use Rattle.std.specs.Io.KnownBytes.{Appends}
use Rattle.vcp_outside.specs.Written.{AppendsFront, AppendsPart}
use Rattle.coded_machine.specs.Moments.{Moment}
use Rattle.coded_machine.specs.declared.rows.fault.RunFault.{RunFault}
use Rattle.coded_machine.specs.declared.rows.fault.RunFault.TheVariants as run
use Rattle.vcp_inputs.specs.Lines.{input_status, input_text}
use Rattle.vcp_inputs.specs.Refusals.{no_rows}
use Rattle.vcp_inputs.specs.Answer.{Answer}
use Rattle.vcp_inputs.specs.PairKind.{PairJob, PairJobDone}
use Rattle.pair_channel.specs.BesideDone.{BesideLeft}
use Rattle.vcp_inputs.specs.Seen.{Still}
use Rattle.vcp_core.specs.declared.ending.Ending.{Ending}
use Rattle.vcp_core.specs.Reach.{end_status}

-- a run was done, and all of its answer's output was written; the answer has this line and this status
abbrev pub PairAnswers : PairJob → List ℕ → ℕ → Moment → Moment → Type 0
PairAnswers j line status before after =
    (x : Answer) × PairJobDone j before.unit after.unit x × Appends before.out.written after.out.written x.out × (x.err ≡ line) × (x.status ≡ status)

-- How far it came: to its end; to a row that is refused; or until writing failed, or memory was wanted, before it began or in it.
abbrev pub ComparesTo : PairJob → Moment → Moment → Result Ending RunFault → Type 0
ComparesTo j before after (Ok e) = PairAnswers j [] (end_status e) before after
ComparesTo j before after (Err (run.Rows f)) = PairAnswers j (input_text j.rows_name (no_rows f)) (input_status (no_rows f)) before after
ComparesTo j before after (Err run.Write) = BesideLeft j.graph j.table j.rows AppendsPart before after
ComparesTo j before after (Err run.Memory) = Still before after ⊎ BesideLeft j.graph j.table j.rows AppendsFront before after
