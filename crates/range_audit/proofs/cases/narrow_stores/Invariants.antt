use Rattle.std.proofs.Common.{◌≡◌, length}
use Rattle.range_walk.specs.Walking.{Narrows}
use Rattle.range_audit.proofs.cases.narrow_stores.Given as goal

abbrev pub invariant-cells : goal.invariant-cells
invariant-cells l = record {
  many : length l.ranges ≡ length l.cycle.graph.now.operations;
  fits : Narrows l.cycle.graph.now.operations l.cycle.cells.now l.fn.ranges l.ranges;
}
