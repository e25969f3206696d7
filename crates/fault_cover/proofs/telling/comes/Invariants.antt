use Rattle.std.proofs.Common.{◌≡◌, ◌<◌, List, drop, slice_get, pos, ◌+ℤ◌, Some}
use Rattle.vcp_base.specs.Code.{modulus}
use Rattle.coded_unit.specs.Words.{modulo}
use Rattle.op_graph.specs.declared.op.Outlet.{Outlet}
use Rattle.fault_cover.specs.Beginnings.{starts_at}
use Rattle.fault_cover.specs.Sources.{Source, comes}
use Rattle.fault_cover.proofs.telling.comes.Given as goal

abbrev pub invariant-starts : goal.invariant-starts
invariant-starts l = record {
  below : l.sum < modulus l.graph.profile;
  value : (from : List Source) (o : Outlet) → l.starts ≡ starts_at l.graph.profile from → slice_get l.graph.outputs l.output ≡ Some o
      → modulo l.graph.profile (pos l.sum +ℤ comes l.graph o.op l.borders (drop l.i from)) ≡ modulo l.graph.profile (comes l.graph o.op l.borders from);
}
