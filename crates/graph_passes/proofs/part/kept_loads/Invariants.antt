use Rattle.std.proofs.Common.{◌≡◌, [], take}
use Rattle.graph_passes.specs.Part.{chosen, moved_load}
use Rattle.graph_passes.specs.Tables.{marked, by_tables}
use Rattle.graph_passes.proofs.part.kept_loads.Given as goal

abbrev pub invariant-loads : goal.invariant-loads
invariant-loads l = l.left.items ≡ chosen (marked l.cells) (moved_load (by_tables [] l.numbers [] [])) 0 (take l.i l.loads)
