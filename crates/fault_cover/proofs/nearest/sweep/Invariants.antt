use Rattle.std.proofs.Common.{◌≡◌, ◌≤◌, ℕ, ◌+◌, Bool, List, length}
use Rattle.op_graph.specs.Reads.{Reads}
use Rattle.fault_cover.specs.Walks.{kept, NotFurther, AreFound, AreWithin, ReadsBelow, Swept}
use Rattle.fault_cover.proofs.nearest.sweep.Given as goal

abbrev pub invariant-operations : goal.invariant-operations
invariant-operations l = record {
  many : length l.found ≡ length l.graph.operations;
  found : (wanted : List Bool) → AreFound l.graph wanted l.fn.found → AreFound l.graph wanted l.found;
  within : (borders : ℕ) → AreWithin borders l.fn.found → AreWithin borders l.found;
  swept : (borders : ℕ) → ReadsBelow l.graph borders l.fn.found → Swept borders l.fn.found l.found;
  closed : (n : ℕ) → n + l.done ≡ length l.graph.operations → (q k j : ℕ) → n ≤ q → Reads l.graph.operations q k j → NotFurther (kept l.found k)
      (kept l.found q);
}
