use Rattle.std.proofs.Common.{◌≡◌, [], take}
use Rattle.graph_passes.specs.Part.{chosen, moved}
use Rattle.graph_passes.specs.Tables.{marked, by_tables}
use Rattle.graph_passes.proofs.part.kept_operations.Given as goal

abbrev pub invariant-operations : goal.invariant-operations
invariant-operations l = l.left.items ≡ chosen (marked l.kept) (moved (by_tables [] l.numbers [] l.cell_numbers)) 0 (take l.i l.operations)
