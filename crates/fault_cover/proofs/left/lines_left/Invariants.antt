use Rattle.std.proofs.Common.{◌≡◌, false, List}
use Rattle.range_walk.specs.declared.range.Stops.{Stops}
use Rattle.fault_cover.specs.Leftovers.{AreLinesOf}
use Rattle.fault_cover.specs.Surveys.{IsSurvey}
use Rattle.fault_cover.specs.Telling.{subject}
use Rattle.fault_cover.proofs.left.lines_left.Given as goal

abbrev pub invariant-operations : goal.invariant-operations
invariant-operations l =
    l.lines.lacked ≡ false → (stops : List Stops) → IsSurvey (subject l.subject.graph.now l.subject.table.now l.subject.survey.now.horizon stops) l.subject.survey.now
    → AreLinesOf (subject l.subject.graph.now l.subject.table.now l.subject.survey.now.horizon stops) l.classes l.k l.lines.list.items
