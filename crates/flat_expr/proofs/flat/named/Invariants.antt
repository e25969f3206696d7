use Rattle.std.proofs.Common.{◌≡◌, take}
use Rattle.op_graph.specs.Lists.{nothing}
use Rattle.flat_expr.specs.Told.{names_of}
use Rattle.flat_expr.proofs.flat.named.Given as goal

abbrev pub invariant-names : goal.invariant-names
invariant-names l = l.graph ≡ record (nothing l.fn.profile) { names = names_of (take l.slot-index l.slots) }
