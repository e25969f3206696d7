use Rattle.std.proofs.Common.{◌≡◌, take}
use Rattle.graph_passes.specs.Part.{chosen}
use Rattle.graph_passes.specs.Tables.{marked, number_at}
use Rattle.graph_passes.proofs.part.kept_stores.Given as goal

abbrev pub invariant-stores : goal.invariant-stores
invariant-stores l = l.left.items ≡ chosen (marked l.cells) (number_at l.numbers) 0 (take l.i l.stores)
