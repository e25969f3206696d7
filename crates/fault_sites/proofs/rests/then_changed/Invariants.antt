use Rattle.fault_sites.proofs.GroupsGoing.{ChangedSo}
use Rattle.fault_sites.proofs.rests.then_changed.Given as goal

abbrev pub invariant-readings : goal.invariant-readings
invariant-readings g l = ChangedSo (g.P.Pen.seen l.fn.pen) (g.P.Pen.seen l.pen) l.n l.e l.rs l.i
