-- Kinds: the tasks of words and files, and what each kind of task leaves behind, a line a kind. A kind that calls the unit has a record for
-- a whole course and one for a course that was cut off; the two kinds of groups of faults share theirs.
-- Definitions: the task of a command and its files, with what each file may be and how long; what is
-- meant by a task, what holds when it was done and when it was cut off, for runs, for faults that are
-- judged, for runs of two channels, also with faults in one, and for wires; what all deliver that a wire's
-- script hands; what is printed of a run; how a command ends, the causes of the statuses, and what every
-- command keeps.
use Rattle.std.specs.Prelude.{ℕ, ◌≡◌, List, []}
use Rattle.op_graph.specs.Lists.{Lists}
use Rattle.vcp_typed.specs.SourceRun.{Program}
use Rattle.vcp_inputs.specs.Forms.{Code}
use Rattle.vcp_inputs.specs.declared.refusal.Refusal.{Refusal}
use Rattle.vcp_inputs.specs.Lines.{read_fault_text, refusal_text}
use Rattle.vcp_inputs.specs.Answer.{Answer, Campaign, printed}
use Rattle.vcp_inputs.specs.GraphsOf.{MayCompile, image_answer}
use Rattle.coded_unit.specs.Seen.{UnitSeen}
use Rattle.coded_machine.specs.Moments.{Moment}
use Rattle.vcp_inputs.specs.Seen.{Appending}
use Rattle.vcp_inputs.specs.RunKind.{Job, RunDone, RunLeft, meant_answer}
use Rattle.fault_injector.specs.Campaign.{verdict_lines}
use Rattle.fault_injector.specs.PairCampaigns.{group_lines}
use Rattle.vcp_inputs.specs.CampaignKind.{GroupsDone, GroupsLeft, RerunsAsked, PairRunsAsked, verdicts_answer, verdicts_meant, pairs_answer, pairs_meant}
use Rattle.telegram.specs.declared.script.script.WireScript.{WireScript}
use Rattle.vcp_inputs.specs.WireKind.{WireDone, WireLeft, wire_meant}
use Rattle.vcp_inputs.specs.PairKind.{PairJob, PairJobDone, pair_answer, pair_meant}
use Rattle.pair_channel.specs.BesideDone.{BesideLeft}

-- What a command and files come to: a name that is lacking; an answer for which no unit is called; a program of which the image of some
-- graph that means it is written, with the numbers of a code; a run; groups of faults that are judged; a run of two
-- channels; groups of faults that two channels may hold; or the script of a wire that is run.
pub data Task : Type 0 where
  lacks : List ℕ → Task
  answers : Answer → Task
  compiles : Program → Code → Task
  runs : Job → Task
  judges : Campaign → Task
  wires : WireScript → Task
  compares : PairJob → Task
  pairs_ : Campaign → Task

-- the file under a name is refused
abbrev pub refusal_task : List ℕ → Refusal → Task
refusal_task name r = answers (record { out = []; err = refusal_text name r; status = 1 })

-- a text is printed and nothing else
abbrev pub prints : List ℕ → Task
prints text = answers (printed text)

-- the answer where the file under a name is lacking
abbrev pub lack_answer : List ℕ → Answer
lack_answer name = record { out = []; err = read_fault_text name; status = 5 }

-- ---- what is meant

-- the answer that a task means: the one that it is given with an honest unit
abbrev pub Meant : Task → Answer → Type 0
Meant (lacks name) x = x ≡ lack_answer name
Meant (answers a) x = x ≡ a
Meant (compiles p code) x = (g : Lists) × MayCompile p code g × (x ≡ image_answer code g)
Meant (runs j) x = x ≡ meant_answer j
Meant (judges c) x = x ≡ verdicts_answer c (verdicts_meant c)
Meant (wires s) x = x ≡ wire_meant s
Meant (compares j) x = x ≡ pair_answer j (pair_meant j)
Meant (pairs_ c) x = x ≡ pairs_answer c (pairs_meant c)

-- ---- what stands after a task

-- the unit was not called, and this is the answer
abbrev pub NoCall : (Answer → Type 0) → UnitSeen → UnitSeen → Answer → Type 0
NoCall Is before after x = (after ≡ before) × Is x

-- the task was done, with this answer
abbrev pub Done : Task → UnitSeen → UnitSeen → Answer → Type 0
Done (lacks name) before after x = NoCall (Meant (lacks name)) before after x
Done (answers a) before after x = NoCall (Meant (answers a)) before after x
Done (compiles p code) before after x = NoCall (Meant (compiles p code)) before after x
Done (runs j) before after x = RunDone j before after x
Done (judges c) before after x = GroupsDone c (RerunsAsked c) (verdicts_answer c) (verdicts_meant c) before after x
Done (wires s) before after x = WireDone s before after x
Done (compares j) before after x = PairJobDone j before after x
Done (pairs_ c) before after x = GroupsDone c (PairRunsAsked c) (pairs_answer c) (pairs_meant c) before after x

-- ---- what stands where a sink or want of memory cut it off

-- the unit was not called, and so much of the answer was written
abbrev pub NoCallLeft : (Answer → Type 0) → Appending → Moment → Moment → Type 0
NoCallLeft Is Writes before after = (after.unit ≡ before.unit) × ((x : Answer) × Is x × Writes before.out.written after.out.written x.out)

-- the task was cut off, with so much written
abbrev pub Left : Task → Appending → Moment → Moment → Type 0
Left (lacks name) Writes before after = NoCallLeft (Meant (lacks name)) Writes before after
Left (answers a) Writes before after = NoCallLeft (Meant (answers a)) Writes before after
Left (compiles p code) Writes before after = NoCallLeft (Meant (compiles p code)) Writes before after
Left (runs j) Writes before after = RunLeft j Writes before after
Left (judges c) Writes before after = GroupsLeft c (RerunsAsked c) (verdicts_answer c) (verdicts_meant c) (verdict_lines c.graph c.groups) Writes before after
Left (wires s) Writes before after = WireLeft s Writes before after
Left (compares j) Writes before after = BesideLeft j.graph j.table j.rows Writes before after
Left (pairs_ c) Writes before after = GroupsLeft c (PairRunsAsked c) (pairs_answer c) (pairs_meant c) (group_lines c.groups) Writes before after
