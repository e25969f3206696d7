use Rattle.std.proofs.Common.{map}
use Rattle.fault_sites.specs.Sites.{each_below}
use Rattle.fault_cover.specs.Candidates.{candidate}
use Rattle.fault_cover.specs.Classes.{fault_at}
use Rattle.fault_cover.specs.Passing.{Passing}
use Rattle.fault_cover.proofs.faults.then_row.Given as goal

abbrev pub invariant-faults : goal.invariant-faults
invariant-faults g l =
    Passing l.subject.graph.now l.subject.table.now l.subject.survey.now
    (map (fault_at l.k) (each_below (λ i. candidate l.class l.subject.graph.now l.k l.op l.j i) l.i))
    (g.L.Listener.Keeps l.subject.graph.now) l.fn.listener l.listener
