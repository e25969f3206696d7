use Rattle.std.proofs.Common.{◌≡◌, ◌≤◌, drop, length, vec_capacity}
use Rattle.op_graph.specs.GraphRun.{cycle, cycle_from}
use Rattle.fault_sites.proofs.graph_values.run_cycle.Given as goal

abbrev pub invariant-operations : goal.invariant-operations
invariant-operations l = record {
  left : cycle l.graph l.cells l.row ≡ cycle_from l.cells l.row l.values.items (drop l.k l.graph.operations);
  given : length l.values.items ≡ l.k;
  room : vec_capacity l.fn.values ≤ vec_capacity l.values;
  all : l.count ≡ length l.graph.operations;
}
