-- Performed: what the program does for the words of a command: it performs the command, and tells the line of its fault, if it ends by one.
use Rattle.std.specs.Prelude.{ℕ, List}
use Rattle.vcp_inputs.specs.Forms.{Form}
use Rattle.vcp_inputs.specs.Abouts.{about}
use Rattle.vcp_inputs.specs.Endings.{TellsLine}
use Rattle.vcp_inputs.specs.Performing.{Performs}
use Rattle.vcp_inputs.specs.Seen.{Outside, moment_of}
use Rattle.vcp_core.specs.Tasks.{TaskOf}

-- A command was performed as far as it came, for the one task that it comes to with what is held, and kept what every command keeps; with a line
-- and a status. The line was told whole, and that is the status; or the sink of the errors failed in it.
abbrev pub Performed : Form → Outside → Outside → ℕ → Type 0
Performed f before after status =
    (line : List ℕ) × (code : ℕ) × Performs (about f) (TaskOf f) before.files after.files (moment_of before) (moment_of after) line code
    × TellsLine line code before.err after.err status
