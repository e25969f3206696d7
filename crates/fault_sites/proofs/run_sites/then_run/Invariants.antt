use Rattle.std.proofs.Common.{◌≡◌, length}
use Rattle.fault_sites.specs.Running.{Room, moment}
use Rattle.fault_sites.proofs.RunGoing.{SoFar}
use Rattle.fault_sites.proofs.run_sites.then_run.Given as goal

abbrev pub invariant-cycles : goal.invariant-cycles
invariant-cycles g l = record {
  so_far : SoFar (g.P.Pen.seen l.fn.told.pen) (g.P.Pen.seen l.told.pen) l.fn.told.part l.told.part l.class l.table l.graph l.rows l.n (moment l.graph l.run);
  room : Room l.graph l.run;
  count : l.count ≡ length l.rows;
}
