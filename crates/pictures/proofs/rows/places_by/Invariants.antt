use Rattle.std.proofs.Common.{◌≡◌, ◌+◌, length}
use Rattle.pictures.specs.Depths.{StandByDepth}
use Rattle.pictures.proofs.OwnRows.{IsFilled}
use Rattle.pictures.proofs.rows.places_by.Given as goal

abbrev pub invariant-operations : goal.invariant-operations
invariant-operations l = record {
  many : length l.places.items ≡ l.i;
  free : length l.free ≡ l.count + 1;
  filled : IsFilled l.free l.places.items;
  stand : StandByDepth l.graph.operations l.places.items;
}
