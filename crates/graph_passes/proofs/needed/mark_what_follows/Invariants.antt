use Rattle.std.proofs.Common.{◌≤◌, ◌≡◌, ◌-◌, ℕ, true, length}
use Rattle.std.specs.Prelude.{vec_capacity}
use Rattle.graph_passes.specs.Marking.{Queues}
use Rattle.graph_passes.specs.Pruning.{Needed}
use Rattle.graph_passes.specs.Tables.{marked}
use Rattle.graph_passes.proofs.Needing.{Done}
use Rattle.graph_passes.proofs.needed.mark_what_follows.Given as goal

abbrev pub invariant-queue : goal.invariant-queue
invariant-queue l = record {
  many : length l.marks ≡ length l.graph.operations;
  queue : Queues l.marks l.queue.items;
  room : length l.marks ≤ vec_capacity l.queue;
  kept : (k : ℕ) → marked l.fn.marks k ≡ true → marked l.marks k ≡ true;
  done : Done l.graph l.marks l.queue.items l.next;
  sound : ((k : ℕ) → marked l.fn.marks k ≡ true → Needed l.graph k) → (k : ℕ) → marked l.marks k ≡ true → Needed l.graph k;
}

-- there are no more places in the queue than operations
abbrev pub decreases-queue : goal.decreases-queue
decreases-queue l = length l.graph.operations - l.next
