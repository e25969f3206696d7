use Rattle.graph_passes.proofs.Joining.{SoFar}
use Rattle.graph_passes.proofs.sharing.joined.Given as goal

abbrev pub invariant-operations : goal.invariant-operations
invariant-operations l = SoFar l.graph l.i l.places.kept.items l.places.numbers.items l.firsts l.count
