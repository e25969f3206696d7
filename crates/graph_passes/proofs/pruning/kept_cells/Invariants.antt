use Rattle.std.proofs.Common.{◌≡◌, map, take}
use Rattle.op_graph.specs.declared.op.Loaded.{Loaded}
use Rattle.graph_passes.specs.Tables.{marked}
use Rattle.graph_passes.proofs.pruning.kept_cells.Given as goal

abbrev pub invariant-cells : goal.invariant-cells
invariant-cells l = l.cells.items ≡ map (λ (c : Loaded). marked l.kept c.load) (take l.loaded-index l.loads)
