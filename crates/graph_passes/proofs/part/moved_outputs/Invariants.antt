use Rattle.std.proofs.Common.{◌≡◌, [], map, take}
use Rattle.graph_passes.specs.Part.{moved_output}
use Rattle.graph_passes.specs.Tables.{by_tables}
use Rattle.graph_passes.proofs.part.moved_outputs.Given as goal

abbrev pub invariant-outputs : goal.invariant-outputs
invariant-outputs l = l.left.items ≡ map (moved_output (by_tables [] l.numbers [] [])) (take l.output-index l.outputs)
