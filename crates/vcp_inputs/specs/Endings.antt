-- Endings: how a command ends, for its task, and the cause of each status.
-- A command may be given up before its task is known: the files broke (5), memory was lacking (7), or the
-- errors' sink failed in the line of one of these (6). Nothing else was written then, and the unit wasn't
-- called.
-- The defined answer is the bytes for `out` and `err` and the status, from the task and the run that the
-- unit's answers give.
-- Where the words lead to an answer without a unit, of `check`, `format`, `plain`, `list`, `widen`, `audit`
-- or of a refusal, it comes whole, its bytes and its status and nothing else, unless the status is 5, 6 or 7,
-- and where nothing failed unless it is 7.
-- `compile` writes the image of a graph that means the program and has at most Size operations, whole and
-- nothing else, unless the status is 5, 6 or 7, and where nothing failed unless it is 7.
-- Status 0 comes only where there is such an answer with that status, a run on the unit, of one channel or of
-- two, with no refusal behind its rows, a program to be compiled, faults to be judged, or the script of a
-- wire to be run.
-- Status 1 comes only where a file is refused, or a row of one.
-- Status 2 comes only where the source stops: in `plain`, or, with an honest unit, in `run`, `il` and `demo`;
-- or, with an honest unit, where the image's graph stops in `exec`, `pair` and `trace`, for `trace` in its
-- cycle or an earlier one; and where it stops, 2 comes, unless the status is 5, 6 or 7.
-- With an honest unit: a run is done as the program means it, or as the image's graph runs on plain integers,
-- with status 0, or 1 at a row that is refused, or 2 where the meaning stops, and all its lines written,
-- unless the status is 5, 6 or 7.
-- Completeness: where nothing failed and the unit was honest, a run is done so, or the status is 7.
-- What is written to `out` and `err` for each status is what the table 'Endings' says; with an honest unit,
-- after 6 from the output, it is a proper front of what the program means.
use Rattle.std.specs.Prelude.{ℕ, ◌≡◌, ◌≢◌, ◌⊎◌, ◌≤◌, true, List}
use Rattle.std.specs.Io.KnownBytes.{Appends}
use Rattle.vcp_outside.specs.Counts.{Rose}
use Rattle.vcp_outside.specs.Written.{AppendsFront, AppendsPart}
use Rattle.vcp_inputs.specs.Lines.{memory_text, read_fault_text, write_fault_text}
use Rattle.vcp_inputs.specs.Answer.{Answer}
use Rattle.vcp_inputs.specs.Abouts.{Among, About, FileWord}
use Rattle.vcp_inputs.specs.Kinds.{Task, lacks, answers, compiles, runs, judges, compares, pairs_, wires, Done, Left, Meant, lack_answer}
use Rattle.coded_unit.specs.Seen.{UnitSeen, StaysHonest}
use Rattle.vcp_outside.specs.Seen.{SinkSeen}
use Rattle.vcp_inputs.specs.Seen.{Outside, Still, moment_of}

-- ---- how a command ends

-- the line was printed with this status, and its sink didn't fail; or the sink of the errors failed in it, with status 6
abbrev pub TellsLine : List ℕ → ℕ → SinkSeen → SinkSeen → ℕ → Type 0
TellsLine line code before after status =
    ((status ≡ code) × Appends before.written after.written line × (after.faults ≡ before.faults))
    ⊎ ((status ≡ 6) × Rose before.faults after.faults × AppendsPart before.written after.written line)

-- How a command ends, for its task. It is done: all of its answer's output was written, and the answer's line was told. Or it was cut off
-- where the sink of the output failed. Or, of a command that takes memory or its rows when it has begun to write, where memory was wanted.
pub data Ends (c : About) (task : Task) (before after : Outside) (status : ℕ) : Type 0 where
  ended : (x : Answer) → Done task before.unit after.unit x → Appends before.out.written after.out.written x.out
      → TellsLine x.err x.status before.err after.err status → Ends c task before after status
  cut : Rose before.out.faults after.out.faults → Left task AppendsPart (moment_of before) (moment_of after)
      → TellsLine write_fault_text 6 before.err after.err status → Ends c task before after status
  wanting : c.late ≡ true → Left task AppendsFront (moment_of before) (moment_of after)
      → TellsLine memory_text 7 before.err after.err status → Ends c task before after status

-- A command was given up before it was known what it comes to, and nothing else was done: the files broke in one that it reads, or memory
-- was wanted.
pub data GivenUp (c : About) (before after : Outside) (status : ℕ) : Type 0 where
  unread : (word : FileWord) → Among word c.files → Rose before.files.broken after.files.broken → Still (moment_of before) (moment_of after)
      → TellsLine (read_fault_text word.name) 5 before.err after.err status → GivenUp c before after status
  unmade : Still (moment_of before) (moment_of after) → TellsLine memory_text 7 before.err after.err status → GivenUp c before after status

-- a command ends for a task that it comes to, or it was given up
pub data Answered (c : About) (Comes : Task → Type 0) (before after : Outside) (status : ℕ) : Type 0 where
  known : (task : Task) → Comes task → Ends c task before after status → Answered c Comes before after status
  given_up : GivenUp c before after status → Answered c Comes before after status

-- ---- causes

-- the status is no fault's: neither a file nor a sink failed, and memory was found
pub record IsNoFault (status : ℕ) : Type 0 where
  pub files : status ≢ 5
  pub sinks : status ≢ 6
  pub memory : status ≢ 7

-- the files didn't break, and no sink's count of faults rose; a name may have been lacking
pub record NothingFailed (before after : Outside) : Type 0 where
  pub files : ¬ Rose before.files.broken after.files.broken
  pub out : ¬ Rose before.out.faults after.out.faults
  pub err : ¬ Rose before.err.faults after.err.faults

-- an answer came: its output and its line were written and nothing else, and it has the status
pub record Came (x : Answer) (before after : Outside) (status : ℕ) : Type 0 where
  pub status_is : status ≡ x.status
  pub out : Appends before.out.written after.out.written x.out
  pub err : Appends before.err.written after.err.written x.err

-- a task was done, and its answer came
pub record Given (task : Task) (before after : Outside) (status : ℕ) : Type 0 where
  pub answer : Answer
  pub done : Done task before.unit after.unit answer
  pub came : Came answer before after status

-- The causes of the statuses, for the task that words and files come to. What 0 to 3 tell is read off the answer's own status.
pub record Causes (task : Task) (before after : Outside) (status : ℕ) : Type 0 where
  -- with an honest unit the answer that is meant comes, but for 5, 6 and 7
  pub meant : StaysHonest before.unit after.unit → IsNoFault status → (x : Answer) × Meant task x × Came x before after status
  -- whatever the unit answers, the task is done, but for 5, 6 and 7
  pub done : IsNoFault status → Given task before after status
  -- and where nothing failed, it is done, unless memory was wanted
  pub finishes : NothingFailed before after → (status ≡ 7) ⊎ Given task before after status
  -- 5 comes only where the files broke, or where a name is lacking that was come to, which the line then names
  pub five_only : status ≡ 5 → Rose before.files.broken after.files.broken
      ⊎ ((name : List ℕ) × (task ≡ lacks name) × Appends before.err.written after.err.written (read_fault_text name))
  -- and where a name is lacking it comes, but for 6 and 7
  pub five : (name : List ℕ) → task ≡ lacks name → status ≢ 6 → status ≢ 7 → status ≡ 5

-- ---- laws

-- a task that is an answer has no status of a fault, nor that of an output that is refused or of words that are no command
abbrev pub HasOwnStatus : Task → Type 0
HasOwnStatus (lacks name) = Unit {0}
HasOwnStatus (answers a) = a.status ≤ 2
HasOwnStatus (compiles p code) = Unit {0}
HasOwnStatus (runs j) = Unit {0}
HasOwnStatus (judges c) = Unit {0}
HasOwnStatus (wires s) = Unit {0}
HasOwnStatus (compares j) = Unit {0}
HasOwnStatus (pairs_ c) = Unit {0}

-- The answer of what was done has at most the status 3; or the task is that a name is lacking, with 5.
abbrev pub DoneHasStatus : Type 0
DoneHasStatus =
    (task : Task) (before after : UnitSeen) (x : Answer) → HasOwnStatus task → Done task before after x
    → (x.status ≤ 3) ⊎ ((name : List ℕ) × (task ≡ lacks name) × (x ≡ lack_answer name))

-- a task that was done with an honest unit was done as it is meant
abbrev pub DoneIsMeant : Type 0
DoneIsMeant = (task : Task) (before after : UnitSeen) (x : Answer) → Done task before after x → StaysHonest before after → Meant task x

-- however a command ends, each status has its cause
abbrev pub EndingsHaveCauses : Type 0
EndingsHaveCauses =
    (c : About) (task : Task) (before after : Outside) (status : ℕ) → HasOwnStatus task → Ends c task before after status → Causes task before after status

-- and where it was given up, whatever its task is
abbrev pub GivingUpHasCauses : Type 0
GivingUpHasCauses =
    (c : About) (task : Task) (before after : Outside) (status : ℕ) → GivenUp c before after status → Causes task before after status
