use Rattle.std.proofs.Common.{◌≡◌, ℕ, ◌+◌, length}
use Rattle.weight_audit.proofs.Marking.{Keeps, ClosedFrom, AreSound}
use Rattle.weight_audit.proofs.marks.sweep.Given as goal

abbrev pub invariant-operations : goal.invariant-operations
invariant-operations l = record {
  many : length l.marks ≡ length l.graph.operations;
  kept : Keeps l.fn.marks l.marks;
  closed : (n : ℕ) → n + l.done ≡ length l.graph.operations → ClosedFrom l.graph.operations n l.marks;
  sound : (out borders : ℕ) → AreSound l.graph out borders l.fn.marks → AreSound l.graph out borders l.marks;
}
