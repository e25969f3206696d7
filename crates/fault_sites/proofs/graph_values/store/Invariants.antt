use Rattle.std.proofs.Common.{◌≡◌, ◌≤◌, ◌++◌, drop, length, map, vec_capacity}
use Rattle.vcp_base.specs.Values.{at}
use Rattle.op_graph.specs.GraphRun.{stored}
use Rattle.fault_sites.proofs.graph_values.store.Given as goal

abbrev pub invariant-cells : goal.invariant-cells
invariant-cells l = record {
  left : stored l.graph l.values ≡ l.cells.items ++ map (λ n. at l.values n) (drop l.i l.graph.stores);
  given : length l.cells.items ≡ l.i;
  room : vec_capacity l.fn.cells ≤ vec_capacity l.cells;
  stores : l.stores ≡ l.graph.stores;
}
