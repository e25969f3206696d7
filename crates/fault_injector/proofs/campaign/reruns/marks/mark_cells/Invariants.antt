use Rattle.std.proofs.Common.{◌≡◌, ◌≤◌, ◌++◌, drop, length, map, vec_capacity}
use Rattle.fault_injector.specs.Touched.{held_marks, mark}
use Rattle.fault_injector.proofs.campaign.reruns.marks.mark_cells.Given as goal

abbrev pub invariant-cells : goal.invariant-cells
invariant-cells l = record {
  marks : held_marks l.graph l.given ≡ l.marks.items ++ map (λ n. mark l.given n) (drop l.i l.graph.stores);
  marked : length l.marks.items ≡ l.i;
  room : vec_capacity l.fn.marks ≤ vec_capacity l.marks;
  stores : l.stores ≡ l.graph.stores;
}
