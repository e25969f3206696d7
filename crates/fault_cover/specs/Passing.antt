-- Passing: some faults are reported of, one after another.
use Rattle.std.specs.Prelude.{List, ◌++◌}
use Rattle.op_graph.specs.Lists.{Lists}
use Rattle.range_walk.specs.declared.range.Stops.{Stops}
use Rattle.signature_table.specs.Signatures.{Numbers}
use Rattle.fault_cover.specs.Classes.{Single}
use Rattle.fault_cover.specs.CoverText.{AreHeard, Heard}
use Rattle.fault_cover.specs.Surveys.{IsSurvey, Surveyed}
use Rattle.fault_cover.specs.Telling.{Subject, subject}

-- each of these faults is reported of, and kept with what was kept before, since a value that it began with
pub record Passes {L : Type 0} (s : Subject) (faults : List Single) (keeps : L → L → List Heard → Type 0) (old new : L) : Type 0 where
  pub heard : List Heard
  pub are : AreHeard s faults heard
  pub kept : (start : L) (past : List Heard) → keeps start old past → keeps start new (past ++ heard)

-- by a survey, whatever the operations that may stop by which it is one
abbrev pub Passing : {L : Type 0} → Lists → Numbers → Surveyed → List Single → (L → L → List Heard → Type 0) → L → L → Type 0
Passing g t v faults keeps old new =
    (stops : List Stops) → IsSurvey (subject g t v.horizon stops) v → Passes (subject g t v.horizon stops) faults keeps old new
