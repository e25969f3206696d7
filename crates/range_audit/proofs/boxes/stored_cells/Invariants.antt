use Rattle.range_audit.proofs.Boxed.{StoredAt}
use Rattle.range_audit.proofs.Steps.{AllAt}
use Rattle.range_audit.proofs.boxes.stored_cells.Given as goal

abbrev pub invariant-cells : goal.invariant-cells
invariant-cells l = AllAt (StoredAt l.graph.stores l.ranges) l.cells.items l.k
