use Rattle.std.proofs.Common.{◌≡◌, ℕ, ◌<◌, length}
use Rattle.fault_cover.specs.Walks.{is_wanted, itself, kept}
use Rattle.fault_cover.proofs.nearest.find_nearest.Given as goal

abbrev pub invariant-operations : goal.invariant-operations
invariant-operations l = record {
  many : length l.found.items ≡ l.k;
  each : (n : ℕ) → n < l.k → kept l.found.items n ≡ itself (is_wanted l.wanted n) n;
}
