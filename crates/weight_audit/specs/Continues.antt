-- Continues: several texts, one after another.
use Rattle.std.specs.Prelude.{ℕ, List, ◌++◌, Option, Result}
use Rattle.vcp_outside.specs.declared.failed.Failed.{Failed}
use Rattle.vcp_outside.specs.Written.{Writes}

-- A call goes on with these bytes: whatever was written before it, or a part of that with a failure, is followed by them, or then by nothing.
abbrev pub Continues : Option (List ℕ) → Option (List ℕ) → ℕ → ℕ → Result (Unit {0}) Failed → Result (Unit {0}) Failed → List ℕ → Type 0
Continues old new faults_old faults_new so_far result bytes =
    (start : Option (List ℕ)) (before : ℕ) (text : List ℕ) →
    Writes start old before faults_old text so_far → Writes start new before faults_new (text ++ bytes) result
