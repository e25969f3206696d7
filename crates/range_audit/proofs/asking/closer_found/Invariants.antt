use Rattle.range_walk.specs.Intervals.{Hold}
use Rattle.range_audit.specs.Searching.{IsAlwaysIn, StopsFrom}
use Rattle.range_audit.proofs.Steps.{AllAt}
use Rattle.range_audit.proofs.asking.closer_found.Given as goal

abbrev pub invariant-operations : goal.invariant-operations
invariant-operations l = record {
  known : AllAt (IsAlwaysIn l.cycle.graph.now.operations l.cycle.cells.now l.told.known) l.found.known l.i;
  stops : AllAt (StopsFrom l.cycle.graph.now.operations l.inputs (Hold l.cycle.cells.now)) l.found.stops l.i;
}
