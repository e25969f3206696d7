use Rattle.std.proofs.Common.{◌≡◌, map, take}
use Rattle.op_graph.specs.Lists.{output_column}
use Rattle.op_graph.proofs.graph.Graph.output_columns.Given as goal

abbrev pub invariant-outputs : goal.invariant-outputs
invariant-outputs l = l.columns ≡ map (output_column l.self.names) (take l.output-index l.self.outputs)
