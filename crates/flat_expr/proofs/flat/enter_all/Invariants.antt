use Rattle.std.proofs.Common.{◌≡◌, take}
use Rattle.flat_expr.specs.Begin.{entered, held_from}
use Rattle.flat_expr.specs.Told.{names_of}
use Rattle.flat_expr.proofs.flat.enter_all.Given as goal

abbrev pub invariant-slots : goal.invariant-slots
invariant-slots l = record {
  graph : l.graph ≡ entered l.initial.graph.profile (names_of l.slots) (take l.i l.slots);
  known : l.known.items ≡ held_from 0 (take l.i l.slots);
}
