use Rattle.std.proofs.Common.{◌≡◌, length, drop}
use Rattle.pictures.specs.Depths.{depths_behind, depths_of, AreBelowTheirNumber}
use Rattle.pictures.proofs.columns.depths_of.Given as goal

abbrev pub invariant-operations : goal.invariant-operations
invariant-operations l = record {
  value : depths_behind l.depths.items (drop l.i l.graph.operations) ≡ depths_of l.graph.operations;
  many : length l.depths.items ≡ l.i;
  low : AreBelowTheirNumber l.depths.items;
}
