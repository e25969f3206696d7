use Rattle.std.proofs.Common.{◌≡◌, ℕ}
use Rattle.flat_expr.specs.Closing.{Closes}
use Rattle.flat_expr.specs.State.{State}
use Rattle.flat_expr.proofs.ending.close_cells.Given as goal

abbrev pub invariant-cells : goal.invariant-cells
invariant-cells l =
    (s : State) (n : ℕ) → Closes s n 0 l.initial.graph l.known → s.slots ≡ l.slots.items.items → (l.graph.loads ≡ l.initial.graph.loads) × Closes s n l.cell l.graph l.known
