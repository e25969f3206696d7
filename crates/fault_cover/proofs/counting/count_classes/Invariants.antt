use Rattle.std.proofs.Common.{List, take}
use Rattle.range_walk.specs.declared.range.Stops.{Stops}
use Rattle.fault_cover.specs.Counts.{AreCountsOf}
use Rattle.fault_cover.specs.Surveys.{IsSurvey}
use Rattle.fault_cover.specs.Telling.{subject}
use Rattle.fault_cover.proofs.counting.count_classes.Given as goal

abbrev pub invariant-classes : goal.invariant-classes
invariant-classes l =
    (stops : List Stops) → IsSurvey (subject l.subject.graph.now l.subject.table.now l.subject.survey.now.horizon stops) l.subject.survey.now
    → AreCountsOf (subject l.subject.graph.now l.subject.table.now l.subject.survey.now.horizon stops) (take l.i l.classes) l.counts.items
