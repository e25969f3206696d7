use Rattle.std.proofs.Common.{◌≡◌, ◌<◌, ℕ, true, length, slice_get, Some}
use Rattle.op_graph.specs.declared.op.Cell.{Cell}
use Rattle.op_graph.specs.Lists.{cells}
use Rattle.weight_audit.specs.Sweeping.{mark, CrossesMarked}
use Rattle.weight_audit.proofs.marks.mark_stores.Given as goal

abbrev pub invariant-cells : goal.invariant-cells
invariant-cells l = record {
  many : length l.marks ≡ length l.graph.operations;
  marked : (n : ℕ) (c : Cell) → n < l.i → slice_get (cells l.graph) n ≡ Some c → mark l.later c.load ≡ true → mark l.marks c.store ≡ true;
  sound : (k : ℕ) → mark l.marks k ≡ true → CrossesMarked (cells l.graph) l.later k;
}
