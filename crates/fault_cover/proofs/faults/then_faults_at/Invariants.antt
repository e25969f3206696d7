use Rattle.std.proofs.Common.{flat_map, take}
use Rattle.fault_cover.specs.Classes.{singles_of}
use Rattle.fault_cover.specs.Passing.{Passing}
use Rattle.fault_cover.proofs.faults.then_faults_at.Given as goal

abbrev pub invariant-classes : goal.invariant-classes
invariant-classes g l =
    Passing l.subject.graph.now l.subject.table.now l.subject.survey.now (flat_map (λ c. singles_of c l.subject.graph.now l.k) (take l.i l.classes))
    (g.L.Listener.Keeps l.subject.graph.now) l.fn.listener l.listener
