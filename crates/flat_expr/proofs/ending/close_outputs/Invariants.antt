use Rattle.std.proofs.Common.{◌≡◌}
use Rattle.flat_expr.specs.Closing.{Closes}
use Rattle.flat_expr.specs.State.{State}
use Rattle.flat_expr.proofs.ending.close_outputs.Given as goal

abbrev pub invariant-outputs : goal.invariant-outputs
invariant-outputs l = (s : State) → Closes s 0 0 l.initial.graph l.initial.known.items → s.slots ≡ l.slots.items.items → Closes s l.slot 0 l.graph l.known.items
