use Rattle.std.proofs.Common.{◌≡◌, map, take}
use Rattle.op_graph.specs.Lists.{column}
use Rattle.op_graph.proofs.graph.Graph.columns.Given as goal

abbrev pub invariant-inputs : goal.invariant-inputs
invariant-inputs l = l.columns ≡ map (column l.self.names) (take l.input-index l.self.inputs)
