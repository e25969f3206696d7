use Rattle.std.proofs.Common.{◌≡◌, ℕ, ◌<◌, ◌≤◌, List, slice_get, Some}
use Rattle.op_graph.specs.declared.op.Outlet.{Outlet}
use Rattle.fault_cover.specs.Beginnings.{starts_at}
use Rattle.fault_cover.specs.Sources.{Source, Refuses, comes}
use Rattle.fault_cover.proofs.telling.is_refused.Given as goal

abbrev pub invariant-outputs : goal.invariant-outputs
invariant-outputs l = (from : List Source) → l.starts ≡ starts_at l.graph.profile from → (i : ℕ) (o : Outlet) → l.first ≤ i → i < l.output
    → slice_get l.graph.outputs i ≡ Some o → Refuses l.graph.profile l.any (comes l.graph o.op l.borders from) → ⊥
