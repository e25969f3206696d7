-- Performing: how far a command comes before the line of its fault, if there is one: by that line and the status that it has.
use Rattle.std.specs.Prelude.{ℕ, ◌≡◌, ◌≢◌, ◌⊎◌, false, true, List, [], ◌∷◌, ◌++◌, IfSome}
use Rattle.std.specs.Io.KnownBytes.{Appends, IsAtEnd}
use Rattle.vcp_outside.specs.Counts.{Rose}
use Rattle.vcp_outside.specs.Held.{Held}
use Rattle.vcp_outside.specs.Written.{AppendsFront, AppendsPart}
use Rattle.run_report.specs.Lines.{stop_text}
use Rattle.vcp_inputs.specs.Lines.{memory_text, read_fault_text, write_fault_text}
use Rattle.vcp_inputs.specs.Answer.{Answer}
use Rattle.vcp_inputs.specs.Abouts.{Among, About, FileWord}
use Rattle.vcp_inputs.specs.Clauses.{IsEnd, IsLine, IsTooLong, MayHold}
use Rattle.vcp_inputs.specs.Kinds.{Task, Done, Left}
use Rattle.coded_machine.specs.Stops.{TellsSomeStop}
use Rattle.vcp_outside.specs.Seen.{FilesSeen}
use Rattle.coded_machine.specs.Moments.{Moment}
use Rattle.vcp_inputs.specs.Seen.{Still}

-- How far a command comes. Its task is done, but for the answer's line; or was cut off, where the sink failed or, of a command that takes
-- memory late, memory was wanted; or nothing was done, since the files broke or memory was wanted.
pub data Reaches (c : About) (Comes : Task → Type 0) (files files_after : FilesSeen) (before after : Moment) (line : List ℕ) (code : ℕ) : Type 0 where
  done : (task : Task) (x : Answer) → Comes task → Done task before.unit after.unit x → Appends before.out.written after.out.written x.out
      → x.err ≡ line → x.status ≡ code → Reaches c Comes files files_after before after line code
  cut : (task : Task) → Comes task → Left task AppendsPart before after → Rose before.out.faults after.out.faults
      → line ≡ write_fault_text → code ≡ 6 → Reaches c Comes files files_after before after line code
  wanting : (task : Task) → Comes task → Left task AppendsFront before after → c.late ≡ true
      → line ≡ memory_text → code ≡ 7 → Reaches c Comes files files_after before after line code
  unread : (word : FileWord) → Among word c.files → Rose files.broken files_after.broken → Still before after
      → line ≡ read_fault_text word.name → code ≡ 5 → Reaches c Comes files files_after before after line code
  unmade : Still before after → line ≡ memory_text → code ≡ 7 → Reaches c Comes files files_after before after line code

-- What each command's function promises: how far it comes, and what it keeps.
pub record Performs (c : About) (Comes : Held → Task → Type 0) (files files_after : FilesSeen) (before after : Moment) (line : List ℕ) (code : ℕ)
    : Type 0 where
  pub reaches : (h : Held) → MayHold c files.held h → Reaches c (Comes h) files files_after before after line code
  pub statuses : Among code (c.ends ++ 5 ∷ 6 ∷ 7 ∷ [])
  pub told : IsLine c code line
  pub held : files_after.held ≡ files.held
  pub unit : c.calls ≡ false → after.unit ≡ before.unit
  pub stay : c.files ≡ [] → files_after ≡ files
  pub ended : c.files ≢ [] → IsEnd code → IsAtEnd files_after.rest
  pub taken : c.files ≢ [] → code ≡ 1 → IfSome files.held (λ h. IsAtEnd files_after.rest ⊎ IsTooLong c h files_after.rest line)
  pub stopped : c.calls ≡ true → code ≡ 2 → TellsSomeStop stop_text before after
  pub refused : code ≡ 3 → Rose before.unit.wrong after.unit.wrong
  pub read : code ≡ 5 → Rose files.faults files_after.faults
  pub write : code ≡ 6 → Rose before.out.faults after.out.faults
  pub no_read_fault : code ≢ 5 → files_after.faults ≡ files.faults
  pub no_write_fault : code ≢ 6 → after.out.faults ≡ before.out.faults
