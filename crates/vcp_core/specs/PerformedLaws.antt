-- PerformedLaws: what follows where a command was performed, for each command.
use Rattle.std.specs.Prelude.{ℕ, ◌≡◌, ◌≢◌, ◌≤◌, List}
use Rattle.vcp_outside.specs.Held.{Held}
use Rattle.vcp_inputs.specs.Forms.{Form, Rows, Code, run, plain}
use Rattle.coded_unit.specs.Seen.{StaysHonest}
use Rattle.vcp_inputs.specs.Abouts.{about}
use Rattle.vcp_inputs.specs.Answer.{Answer}
use Rattle.vcp_inputs.specs.Clauses.{Completes, Keeps, MayHold, Serves}
use Rattle.vcp_inputs.specs.Endings.{Came, IsNoFault}
use Rattle.vcp_inputs.specs.Kinds.{Task, answers, Meant}
use Rattle.vcp_inputs.specs.Seen.{Outside}
use Rattle.vcp_core.specs.Performed.{Performed}
use Rattle.vcp_core.specs.Tasks.{TaskOf}

-- for the one task that its words lead to with what is held, it ended for it or was given up, and each status has its cause
abbrev pub PerformedServes : Type 0
PerformedServes = (f : Form) (before after : Outside) (status : ℕ) → Performed f before after status →
    (h : Held) → MayHold (about f) before.files.held h → Serves (about f) h (TaskOf f h) before after status

-- where each file is held, nothing failed, the unit was honest, if it is called, and nothing is refused, it was brought to its end, unless memory was wanted
abbrev pub PerformedCompletes : Type 0
PerformedCompletes = (f : Form) (before after : Outside) (status : ℕ) → Performed f before after status →
    (h : Held) → MayHold (about f) before.files.held h → Completes (about f) h (TaskOf f h) before after status

-- whatever the objects tell, it kept what every command keeps
abbrev pub PerformedKeeps : Type 0
PerformedKeeps = (f : Form) (before after : Outside) (status : ℕ) → Performed f before after status → Keeps (about f) before after status

-- its status is none but 0 to 7, and not that of words that are no command
abbrev pub PerformedKnown : Type 0
PerformedKnown = (f : Form) (before after : Outside) (status : ℕ) → Performed f before after status → (status ≤ 7) × (status ≢ 4)

-- the answer that is meant where `run` comes to a task is the one to which `plain` comes, where it comes to one
abbrev pub RunMeansPlain : Type 0
RunMeansPlain = (p : List ℕ) (rows : Rows) (code : Code) (h : Held) (task : Task) → TaskOf (run p rows code) h task →
    (x y : Answer) → TaskOf (plain p rows) h (answers x) → Meant task y → y ≡ x

-- so where no answer was wrong `run` wrote the answer of `plain`, with its status, but for 5, 6 and 7
abbrev pub RunWritesPlain : Type 0
RunWritesPlain = (p : List ℕ) (rows : Rows) (code : Code) (before after : Outside) (status : ℕ) → Performed (run p rows code) before after status →
    (h : Held) → MayHold (about (run p rows code)) before.files.held h →
    (x : Answer) → TaskOf (plain p rows) h (answers x) → StaysHonest before.unit after.unit → IsNoFault status → Came x before after status
