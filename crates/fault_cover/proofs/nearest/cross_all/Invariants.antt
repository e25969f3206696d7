use Rattle.std.proofs.Common.{◌≡◌, ℕ, ◌+◌, ◌<◌, ◌≤◌, Bool, true, false, List, length, slice_get, Some}
use Rattle.op_graph.specs.declared.op.Cell.{Cell}
use Rattle.op_graph.specs.Lists.{cells}
use Rattle.fault_cover.specs.Walks.{further, kept, NotFurther, AreFound, AreWithin, Swept, missing}
use Rattle.fault_cover.proofs.nearest.cross_all.Given as goal

abbrev pub invariant-cells : goal.invariant-cells
invariant-cells l = record {
  many : length l.found ≡ length l.graph.operations;
  swept : Swept (l.borders + 1) l.fn.found l.found;
  done : (j : ℕ) (d : Cell) → j < l.i → slice_get (cells l.graph) j ≡ Some d → NotFurther (kept l.found d.store) (further (kept l.fn.found d.load) 1);
  found : (wanted : List Bool) → AreFound l.graph wanted l.fn.found → AreFound l.graph wanted l.found;
  within : AreWithin (l.borders + 1) l.found;
  none : l.more ≡ false → (k : ℕ) → kept l.found k ≡ kept l.fn.found k;
  most : missing l.graph l.found ≤ missing l.graph l.fn.found;
  fewer : l.more ≡ true → missing l.graph l.found < missing l.graph l.fn.found;
}
