use Rattle.fault_sites.specs.Sites.{each_below}
use Rattle.fault_cover.specs.Classes.{singles_of}
use Rattle.fault_cover.specs.Passing.{Passing}
use Rattle.fault_cover.proofs.faults.then_class_faults.Given as goal

abbrev pub invariant-operations : goal.invariant-operations
invariant-operations g l =
    Passing l.subject.graph.now l.subject.table.now l.subject.survey.now (each_below (λ k. singles_of l.class l.subject.graph.now k) l.k)
    (g.L.Listener.Keeps l.subject.graph.now) l.fn.listener l.listener
