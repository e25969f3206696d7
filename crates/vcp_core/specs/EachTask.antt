-- EachTask: each command has a task.
use Rattle.std.specs.Prelude.{ℕ, ◌≡◌, ◌<◌, List, All, Some}
use Rattle.vcp_outside.specs.Held.{Held}
use Rattle.vcp_inputs.specs.Forms.{Form}
use Rattle.vcp_inputs.specs.Kinds.{Task}
use Rattle.vcp_core.specs.Tasks.{TaskOf}

-- what is held under each name are bytes
abbrev pub HoldsBytes : Held → Type 0
HoldsBytes held = (name bytes : List ℕ) → held name ≡ Some bytes → All (λ b. b < 256) bytes

-- each command comes to a task, whatever bytes are held
abbrev pub EachHasTask : Type 0
EachHasTask = (f : Form) (held : Held) → HoldsBytes held → (task : Task) × TaskOf f held task
