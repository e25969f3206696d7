use Rattle.std.proofs.Common.{◌≡◌, length}
use Rattle.range_walk.specs.Walking.{Narrows}
use Rattle.range_walk.proofs.narrowing.narrow.Given as goal

abbrev pub invariant-passes : goal.invariant-passes
invariant-passes l = record {
  many : length l.ranges ≡ length l.fn.ranges;
  fits : Narrows l.graph.operations l.cells l.fn.ranges l.ranges;
}
