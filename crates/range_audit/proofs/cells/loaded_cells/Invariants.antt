use Rattle.range_audit.proofs.Boxed.{LoadedAt}
use Rattle.range_audit.proofs.Steps.{AllAt}
use Rattle.range_audit.proofs.cells.loaded_cells.Given as goal

abbrev pub invariant-cells : goal.invariant-cells
invariant-cells l = AllAt (LoadedAt l.typed l.graph.loads) l.cells.items l.k
