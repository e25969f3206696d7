use Rattle.std.proofs.Common.{map}
use Rattle.fault_sites.specs.Sites.{each_below}
use Rattle.fault_cover.specs.Candidates.{row}
use Rattle.fault_cover.specs.Classes.{fault_at}
use Rattle.fault_cover.specs.Passing.{Passing}
use Rattle.fault_cover.proofs.faults.then_operation_faults.Given as goal

abbrev pub invariant-operands : goal.invariant-operands
invariant-operands g l =
    Passing l.subject.graph.now l.subject.table.now l.subject.survey.now
    (map (fault_at l.k) (each_below (row l.class l.subject.graph.now l.k l.op) l.j))
    (g.L.Listener.Keeps l.subject.graph.now) l.fn.listener l.listener
