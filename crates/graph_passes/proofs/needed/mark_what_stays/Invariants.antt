use Rattle.std.proofs.Common.{◌≤◌, ◌≡◌, ◌<◌, ℕ, Some, true, length, slice_get}
use Rattle.std.specs.Prelude.{vec_capacity}
use Rattle.op_graph.specs.declared.op.Op.{Op}
use Rattle.graph_passes.specs.Marking.{Queues}
use Rattle.graph_passes.specs.Pruning.{Needed, must_stay}
use Rattle.graph_passes.specs.Tables.{marked}
use Rattle.graph_passes.proofs.needed.mark_what_stays.Given as goal

abbrev pub invariant-operations : goal.invariant-operations
invariant-operations l = record {
  many : length l.marks ≡ length l.graph.operations;
  stays : (n : ℕ) (op : Op) → n < l.i → slice_get l.graph.operations n ≡ Some op → must_stay op ≡ true → marked l.marks n ≡ true;
  needed : (n : ℕ) → marked l.marks n ≡ true → Needed l.graph n;
  queue : Queues l.marks l.queue.items;
  room : length l.marks ≤ vec_capacity l.queue;
}
