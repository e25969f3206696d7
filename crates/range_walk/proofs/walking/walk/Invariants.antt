use Rattle.std.proofs.Common.{◌≡◌, length}
use Rattle.range_walk.proofs.Steps.{Each, FitsAt, NamesAt, AbleAt, LiesAt}
use Rattle.range_walk.proofs.walking.walk.Given as goal

abbrev pub invariant-operations : goal.invariant-operations
invariant-operations l = record {
  known_many : length l.ranges.known ≡ l.i;
  stops_many : length l.ranges.stops ≡ l.i;
  fits : Each (FitsAt l.graph.operations l.cells l.inputs) l.ranges.known;
  names : Each (NamesAt l.graph.operations l.cells l.inputs) l.ranges.stops;
  able : Each (AbleAt l.graph.operations) l.ranges.stops;
  lie : Each (LiesAt l.graph.operations) l.ranges.known;
}
