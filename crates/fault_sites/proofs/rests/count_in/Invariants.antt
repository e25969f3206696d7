use Rattle.std.proofs.Common.{◌≡◌, ◌≤◌, ◌*◌, ℕ, length, slice_get}
use Rattle.fault_sites.specs.Rests.{groups_at}
use Rattle.fault_sites.specs.Sites.{each_below}
use Rattle.fault_sites.proofs.rests.count_in.Given as goal

abbrev pub invariant-operations : goal.invariant-operations
invariant-operations l = record {
  value : (n : ℕ) → l.count ≡ length (each_below (λ k. groups_at l.graph l.more n k (slice_get l.graph.operations k)) l.k);
  few : l.count ≤ l.k * 32505856;
}
