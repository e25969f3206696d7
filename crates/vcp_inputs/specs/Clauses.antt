-- Clauses: what the top call promises of a command beside its answer, and of words that are none.
-- Where the files that the words name are held, the files didn't break and no sink failed, a command ends
-- with one of its own statuses, unless memory was lacking.
-- Words that call no unit, those of `check`, `format`, `plain`, `compile`, `list`, `widen` and `audit`, leave
-- its log and its count of wrong answers.
-- The words of `demo` read no file: what is unread of the file that was begun last stays, and so do the
-- counts of the files.
-- `check`, `format`, `compile`, `list`, `widen`, `audit`, `inject` and `pairs` end with 0 or 1, `wire` with
-- 0, 1 or 3, `plain` with 0, 1 or 2, `run`, `il`, `exec`, `trace`, `pair` and `demo` with 0, 1, 2 or 3, and
-- each also with 5, 6 and 7.
-- With any unit, status 2 of `run`, `il`, `exec`, `trace`, `pair` and `demo` comes only where the log ends in
-- a stop: its last answer is one, or an output's word in the last cycle has a value outside its type and only
-- words came after it; and where the last line that was written is that of a stop of the same kind in the same
-- cycle. For files in memory, its place and its turns are those of the operation, too.
-- Status 3 comes only where the unit's count of wrong answers rose; in memory, with a kept log, exactly where
-- the run that the log's answers give ends refused, or the channels of `pair` disagree by them, or a sending
-- of `wire` is answered by no word, unless the status is 5 or 6.
-- Status 5 comes only where the files' count of faults rose; in memory, only where they broke, or where the
-- task is that a name is lacking, which the line then names. In memory: where a name is lacking, 5 comes,
-- unless the status is 6 or 7.
-- Status 6 comes only where a sink's count of faults rose: that of the output, and then `write fault` was
-- reported, or that of the errors.
-- And a call that fails gives 5 or 6 each time: the files' count of faults is what it was unless the status is
-- 5 or 6, and those of both sinks are unless it is 6. So none is passed over, or tried again until it doesn't
-- fail.
-- What is on the errors after each status: nothing after 0, 2 and 3; after 1 a refusal of a file that the
-- words name, of `--cycles` or, for `demo`, of what was made, and never `no memory`; after 5 the line of a
-- file that the words name; after 6 `write fault`, and only where the count of the output rose; after 7 `no
-- memory`, which names no file. Or, with 6, a part of the line of the status that would else have come, in
-- which the count of the errors' sink rose.
-- In commands that read files, status 0, 2 and 3 come only where nothing is unread of the file that was begun
-- last, if the files say it; and 1 too, unless the line tells that a file that the command reads has more
-- bytes than it may, and it has, of which exactly one more than it may was taken. The status is none but 0 to
-- 7, and what is held stays.
use Rattle.std.specs.Prelude.{ℕ, ◌≡◌, ◌≢◌, ◌⊎◌, ◌+◌, ◌<◌, false, true, List, [], ◌∷◌, ◌++◌, length, drop, Option, Some, IsSome, IfSome}
use Rattle.std.specs.Io.KnownBytes.{Appends, IsAtEnd}
use Rattle.vcp_outside.specs.Counts.{Rose}
use Rattle.vcp_outside.specs.Held.{Held}
use Rattle.run_report.specs.Lines.{stop_text}
use Rattle.vcp_inputs.specs.Forms.{usage_text}
use Rattle.vcp_inputs.specs.declared.refusal.Refusal.TheVariants as refusal
use Rattle.vcp_inputs.specs.declared.refusal.Refusal.{Refusal}
use Rattle.vcp_inputs.specs.Lines.{diagnostic_of, memory_text, read_fault_text, refusal_text, write_fault_text}
use Rattle.vcp_inputs.specs.Answer.{Answer}
use Rattle.vcp_inputs.specs.Abouts.{Among, About, FileWord, AllHeld}
use Rattle.vcp_inputs.specs.Endings.{Answered, Came, Causes, NothingFailed, TellsLine}
use Rattle.vcp_inputs.specs.Kinds.{Task, Meant}
use Rattle.coded_machine.specs.Stops.{TellsSomeStop}
use Rattle.vcp_outside.specs.Seen.{SinkSeen}
use Rattle.coded_unit.specs.Seen.{StaysHonest}
use Rattle.vcp_inputs.specs.Seen.{Outside, moment_of}

-- ---- words that are no command

-- the usage line was printed, with status 4, or its sink failed in it, with status 6; and nothing else was done
pub record GetsUsage (before after : Outside) (status : ℕ) : Type 0 where
  pub told : TellsLine usage_text 4 before.err after.err status
  pub files : after.files ≡ before.files
  pub unit : after.unit ≡ before.unit
  pub out : after.out ≡ before.out

-- ---- what holds of a command whatever the objects tell

-- a file that the command reads has more bytes than it may have, of which one more than that was taken, and that is the line
pub record IsTooLong (c : About) (held : Held) (rest : Option (List ℕ)) (line : List ℕ) : Type 0 where
  pub word : FileWord
  pub named : Among word c.files
  pub bytes : List ℕ
  pub found : held word.name ≡ Some bytes
  pub long : word.most < length bytes
  pub left : rest ≡ Some (drop (word.most + 1) bytes)
  pub line_is : line ≡ refusal_text word.name refusal.Bytes

-- and that is the line that was printed
abbrev pub TellsTooLong : About → Held → Option (List ℕ) → SinkSeen → SinkSeen → Type 0
TellsTooLong c held rest before after = (line : List ℕ) × IsTooLong c held rest line × Appends before.written after.written line

-- a command came to its end: the end of its rows, a stop or a refused output
abbrev pub IsEnd : ℕ → Type 0
IsEnd status = (status ≡ 0) ⊎ ((status ≡ 2) ⊎ (status ≡ 3))

-- a file that the command reads has this name
abbrev pub NamesFile : About → List ℕ → Type 0
NamesFile c name = (word : FileWord) × Among word c.files × (name ≡ word.name)

-- the command's lines tell something by this name: a file that it reads, or what is no file
abbrev pub MayName : About → List ℕ → Type 0
MayName c name = NamesFile c name ⊎ Among name c.others

-- The line of a status: none where the command came to its end; of 1 the refusal of what the command may name, with a place and a code, and so
-- for another cause than want of memory; of 5 that of a file that it reads; of 6 that of the output, and of 7 that of memory, which name no file.
pub record IsLine (c : About) (code : ℕ) (line : List ℕ) : Type 0 where
  pub none : IsEnd code → line ≡ []
  pub refused : code ≡ 1 → (name : List ℕ) × (r : Refusal) × MayName c name × IsSome (diagnostic_of r) × (line ≡ refusal_text name r)
  pub file : code ≡ 5 → (name : List ℕ) × NamesFile c name × (line ≡ read_fault_text name)
  pub output : code ≡ 6 → line ≡ write_fault_text
  pub memory : code ≡ 7 → line ≡ memory_text

-- Of the statuses that the command may have one came, 6 only where the sink of the output failed, and its line was told whole; or the sink of the
-- errors failed in that line, which was told in part, and the status is 6.
abbrev pub TellsItsLine : About → Outside → Outside → ℕ → Type 0
TellsItsLine c before after status =
    (code : ℕ) × (line : List ℕ) × Among code (c.ends ++ 5 ∷ 6 ∷ 7 ∷ []) × IsLine c code line
    × (code ≡ 6 → Rose before.out.faults after.out.faults) × TellsLine line code before.err after.err status

-- a sink failed: that of the output, and its line was told, or that of the errors
abbrev pub LosesOutput : Outside → Outside → Type 0
LosesOutput before after =
    (Rose before.out.faults after.out.faults × Appends before.err.written after.err.written write_fault_text)
    ⊎ Rose before.err.faults after.err.faults

-- A call that failed shows in the status: the counts of both sinks are what they were unless it is 6, and that of the files unless it is 5 or 6.
pub record FaultsShow (before after : Outside) (status : ℕ) : Type 0 where
  pub files : status ≢ 5 → status ≢ 6 → after.files.faults ≡ before.files.faults
  pub out : status ≢ 6 → after.out.faults ≡ before.out.faults
  pub err : status ≢ 6 → after.err.faults ≡ before.err.faults

-- What every command keeps. Its statuses are its own, or those of a fault, each with its line; what it isn't about stays; 0, 1, 2 and 3
-- come only where nothing is unread of the file that was begun last, but for one that is too long; 2, 3, 5 and 6 come only by the objects
-- that were handed in; and a failure of these comes to 5 or 6.
pub record Keeps (c : About) (before after : Outside) (status : ℕ) : Type 0 where
  pub statuses : Among status (c.ends ++ 5 ∷ 6 ∷ 7 ∷ [])
  pub told : TellsItsLine c before after status
  pub held : after.files.held ≡ before.files.held
  pub unit : c.calls ≡ false → after.unit ≡ before.unit
  pub files : c.files ≡ [] → after.files ≡ before.files
  pub ended : c.files ≢ [] → IsEnd status → IsAtEnd after.files.rest
  pub taken : c.files ≢ [] → status ≡ 1 → IfSome before.files.held (λ h. IsAtEnd after.files.rest ⊎ TellsTooLong c h after.files.rest before.err after.err)
  pub stopped : c.calls ≡ true → status ≡ 2 → TellsSomeStop stop_text (moment_of before) (moment_of after)
  pub refused : status ≡ 3 → Rose before.unit.wrong after.unit.wrong
  pub read : status ≡ 5 → Rose before.files.faults after.files.faults
  pub write : status ≡ 6 → LosesOutput before after
  pub faults : FaultsShow before after status

-- ---- what holds where it is told what is held

-- files hold this, where they tell it; of a command that reads none they may hold anything
abbrev pub MayHold : About → Option Held → Held → Type 0
MayHold c told held = (told ≡ Some held) ⊎ (c.files ≡ [])

-- How a command serves, that comes to tasks so: it ends for its task or was given up; whatever its task is, each status has its cause; and
-- where each of its files is held and nothing failed, its status says of neither a file nor a sink that it failed.
pub record Serves (c : About) (held : Held) (Comes : Task → Type 0) (before after : Outside) (status : ℕ) : Type 0 where
  pub answered : Answered c Comes before after status
  pub causes : (task : Task) → Comes task → Causes task before after status
  pub unfailing : AllHeld held c.files → NothingFailed before after → (status ≢ 5) × (status ≢ 6)

-- nothing of a task is refused: no answer that is meant by it has the status of a refusal
abbrev pub IsAccepted : Task → Type 0
IsAccepted task = (x : Answer) → Meant task x → x.status ≢ 1

-- A task was brought to its end: with 0, or with 2 where the command may meet a stop. All that is meant by it was written, to the output
-- and to the errors. Of the file that was begun last nothing is unread; what was read of the others the answer shows.
pub record Completed (c : About) (task : Task) (before after : Outside) (status : ℕ) : Type 0 where
  pub answer : Answer
  pub meant : Meant task answer
  pub came : Came answer before after status
  pub own : (status ≡ 0) ⊎ ((status ≡ 2) × Among 2 c.ends)
  pub read : c.files ≢ [] → IsAtEnd after.files.rest

-- Completeness: where each file of a command is held, nothing failed, the unit was honest, if the command calls it, and nothing of its task is
-- refused, the task is brought to its end, unless memory was wanted.
abbrev pub Completes : About → Held → (Task → Type 0) → Outside → Outside → ℕ → Type 0
Completes c held Comes before after status =
    AllHeld held c.files → NothingFailed before after → (c.calls ≡ true → StaysHonest before.unit after.unit) →
    (task : Task) → Comes task → IsAccepted task → (status ≡ 7) ⊎ Completed c task before after status
