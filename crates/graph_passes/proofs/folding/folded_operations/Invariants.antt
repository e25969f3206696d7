use Rattle.std.proofs.Common.{◌≡◌, [], take}
use Rattle.graph_passes.specs.Folding.{folded_after}
use Rattle.graph_passes.proofs.folding.folded_operations.Given as goal

abbrev pub invariant-operations : goal.invariant-operations
invariant-operations l = l.left.items ≡ folded_after [] (take l.op-index l.operations)
