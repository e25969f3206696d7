-- CarriedOut: how far a command comes before the line of its fault, if there is one, is reported, by that line and the status that it has; and what it keeps.
use Rattle.std.specs.Prelude.{ℕ, ◌≡◌, ◌⊎◌, ◌≤◌, Bool, true, false, List, [], ◌∷◌, IfSome, Result, Ok, Err}
use Rattle.std.specs.Io.KnownBytes.{Appends, IsAtEnd}
use Rattle.vcp_outside.specs.Counts.{Rose}
use Rattle.vcp_outside.specs.Held.{Held}
use Rattle.vcp_outside.specs.Seen.{FilesSeen, SinkSeen}
use Rattle.vcp_outside.specs.Written.{AppendsPart}
use Rattle.vcp_inputs.specs.Lines.{memory_text, write_fault_text}
use Rattle.vcp_inputs.specs.Abouts.{Among}
use Rattle.vcp_inputs.specs.Answer.{Answer}
use Rattle.vcp_study_core.specs.FromFiles.{FromFiles, got, ends_by, fault_answer}
use Rattle.vcp_study_core.specs.declared.fault.Fault.{Fault}

-- the status of a command that wrote all: 9 where it found what it looks for, and else 0
abbrev pub status_of : Bool → ℕ
status_of true = 9
status_of false = 0

-- the answer of one that writes a text, and finds what it looks for or doesn't
abbrev pub written : List ℕ → Bool → Answer
written text found = record { out = text; err = []; status = status_of found }

-- the line of a command that ended so, nothing where it wrote all; and the status
abbrev pub told_line : Result Bool Fault → List ℕ
told_line (Ok found) = []
told_line (Err e) = (fault_answer e).err

abbrev pub told_status : Result Bool Fault → ℕ
told_status (Ok found) = status_of found
told_status (Err e) = (fault_answer e).status

-- An answer is carried out that is one of these: all of its output is written; or a part of it, where the sink failed; or memory was wanted, and nothing is
-- written.
pub data CarriedOut (Is : Answer → Type 0) (old new : SinkSeen) (line : List ℕ) (code : ℕ) : Type 0 where
  done : (x : Answer) → Is x → Appends old.written new.written x.out → x.err ≡ line → x.status ≡ code → CarriedOut Is old new line code
  cut : (x : Answer) → Is x → AppendsPart old.written new.written x.out → line ≡ write_fault_text → code ≡ 6 → CarriedOut Is old new line code
  unmade : Appends old.written new.written [] → line ≡ memory_text → code ≡ 7 → CarriedOut Is old new line code

-- what a function promises that only writes
pub record WritesSo (Is : Answer → Type 0) (old new : SinkSeen) (line : List ℕ) (code : ℕ) : Type 0 where
  pub reaches : CarriedOut Is old new line code
  pub statuses : Among code (0 ∷ 1 ∷ 6 ∷ 7 ∷ 9 ∷ [])
  pub write : code ≡ 6 → Rose old.faults new.faults

-- an answer is one for want of something that is read, and for want of a file only where the files' count of faults rose
pub record IsLoss (files after : FilesSeen) (x : Answer) : Type 0 where
  pub nothing : x.out ≡ []
  pub statuses : Among x.status (1 ∷ 5 ∷ 7 ∷ [])
  pub read : x.status ≡ 5 → Rose files.faults after.faults

-- nothing is unread where something is found; else the answer is for want of it
abbrev pub EndsSo : {V : Type 0} → FilesSeen → FilesSeen → FromFiles V → Type 0
EndsSo files after (got v) = IsAtEnd after.rest
EndsSo files after (ends_by x) = IsLoss files after x

-- what a function promises that only reads files, by what they come to where it is reported what they hold
pub record Fetches {V : Type 0} (Comes : Held → ℕ → ℕ → FromFiles V → Type 0) (files after : FilesSeen) (r : FromFiles V) : Type 0 where
  pub reads : IfSome files.held (λ h. Comes h files.broken after.broken r)
  pub ends : EndsSo files after r
  pub held : after.held ≡ files.held
  pub later : files.faults ≤ after.faults
  pub broken_later : files.broken ≤ after.broken

-- What a function promises that reads files and writes: how far it comes where it is reported what they hold; and whatever they tell, that they hold the same
-- and nothing is unread where all is written; and that a file or a sink failed only where its count rose.
pub record Studies (Is : Held → ℕ → ℕ → Answer → Type 0) (files after : FilesSeen) (old new : SinkSeen) (line : List ℕ) (code : ℕ) : Type 0 where
  pub reaches : IfSome files.held (λ h. CarriedOut (Is h files.broken after.broken) old new line code)
  pub statuses : Among code (0 ∷ 1 ∷ 5 ∷ 6 ∷ 7 ∷ 9 ∷ [])
  pub held : after.held ≡ files.held
  pub ended : (code ≡ 0) ⊎ (code ≡ 9) → IsAtEnd after.rest
  pub read : code ≡ 5 → Rose files.faults after.faults
  pub write : code ≡ 6 → Rose old.faults new.faults
