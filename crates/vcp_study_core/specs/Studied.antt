-- Studied: what the program does for the words of a command: it performs the command, and tells the line of its fault, if it ends by one. And what it does
-- for words that are none.
use Rattle.std.specs.Prelude.{ℕ, ◌≡◌, List}
use Rattle.vcp_outside.specs.Seen.{FilesSeen, SinkSeen}
use Rattle.vcp_inputs.specs.Endings.{TellsLine}
use Rattle.vcp_study_core.specs.Forms.{Form, usage_text}
use Rattle.vcp_study_core.specs.CarriedOut.{Studies}
use Rattle.vcp_study_core.specs.Tasks.{TaskOf}

-- what contracts see, at one moment, of all that is handed to the program
pub record AllSeen : Type 0 where
  pub files : FilesSeen
  pub out : SinkSeen
  pub err : SinkSeen

abbrev pub all_seen : FilesSeen → SinkSeen → SinkSeen → AllSeen
all_seen files out err = record { files = files; out = out; err = err }

-- A command was performed as far as it came, for what its words lead to with what is held, with a line and a status. The line was reported whole,
-- and that is the status; or the sink of the errors failed in it.
abbrev pub Studied : Form → AllSeen → AllSeen → ℕ → Type 0
Studied f before after status =
    (line : List ℕ) × (code : ℕ) × Studies (TaskOf f) before.files after.files before.out after.out line code
    × TellsLine line code before.err after.err status

-- the usage line was printed, with status 4, or its sink failed in it, with status 6; and nothing else was done
pub record ToldUsage (before after : AllSeen) (status : ℕ) : Type 0 where
  pub told : TellsLine usage_text 4 before.err after.err status
  pub files : after.files ≡ before.files
  pub out : after.out ≡ before.out
