use Rattle.std.proofs.Common.{◌≡◌, ℕ, ◌+◌, ℤ, length}
use Rattle.weight_audit.specs.Sweeping.{AreResidues}
use Rattle.weight_audit.proofs.Sweep.{handed_on}
use Rattle.weight_audit.proofs.numbers.sweep.Given as goal

abbrev pub invariant-operations : goal.invariant-operations
invariant-operations l = record {
  many : length l.numbers ≡ length l.graph.operations;
  are : (leaving : ℕ → ℤ) (i : ℕ) → i + l.done ≡ length l.graph.operations → AreResidues l.profile (length l.graph.operations) leaving l.fn.numbers
      → AreResidues l.profile (length l.graph.operations) (handed_on leaving l.graph.operations i) l.numbers;
}
