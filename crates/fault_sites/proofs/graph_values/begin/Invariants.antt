use Rattle.std.proofs.Common.{◌≡◌, ◌≤◌, map, take, length, vec_capacity}
use Rattle.fault_sites.proofs.graph_values.begin.Given as goal

abbrev pub invariant-cells : goal.invariant-cells
invariant-cells l = record {
  first : l.cells.items ≡ map (λ x. x.init) (take l.i l.graph.loads);
  room : vec_capacity l.fn.cells ≤ vec_capacity l.cells;
  given : length l.cells.items ≡ l.i;
  loads : l.loads ≡ l.graph.loads;
}
