use Rattle.std.proofs.Common.{◌≡◌, ℕ, ◌<◌, length, slice_get, Some}
use Rattle.range_audit.specs.Searching.{Box, IsInBox, IsFound}
use Rattle.range_audit.proofs.naming.found_from.Given as goal

abbrev pub invariant-boxes : goal.invariant-boxes
invariant-boxes l = record {
  known : length l.found.known ≡ length l.graph.operations;
  stops : length l.found.stops ≡ length l.graph.operations;
  found : (j : ℕ) → j < l.k → (b : Box) → slice_get l.boxes.list.items j ≡ Some b
      → IsFound l.graph.operations l.inputs (IsInBox (length l.graph.stores) b.items) l.found;
}
