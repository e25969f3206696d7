use Rattle.std.proofs.Common.{◌≡◌, ◌+◌, ◌≤◌, Bool, List, length}
use Rattle.op_graph.specs.Lists.{cells}
use Rattle.fault_cover.specs.Walks.{AreBegun, AreFound, AreWithin, CrossesBelow, ReadsBelow, missing}
use Rattle.fault_cover.proofs.nearest.walk.Given as goal

abbrev pub invariant-borders : goal.invariant-borders
invariant-borders l = record {
  many : length l.found ≡ length l.graph.operations;
  found : (wanted : List Bool) → AreFound l.graph wanted l.fn.found → AreFound l.graph wanted l.found;
  begun : (wanted : List Bool) → AreBegun wanted l.fn.found → AreBegun wanted l.found;
  within : AreWithin l.borders l.found;
  reads : ReadsBelow l.graph l.borders l.found;
  crosses : CrossesBelow l.graph l.borders l.found;
  few : missing l.graph l.found + l.borders ≤ length (cells l.graph);
}
