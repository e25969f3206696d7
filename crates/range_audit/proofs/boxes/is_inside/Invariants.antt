use Rattle.std.proofs.Common.{ℕ, ◌<◌}
use Rattle.range_audit.proofs.Boxed.{InsideAt}
use Rattle.range_audit.proofs.boxes.is_inside.Given as goal

abbrev pub invariant-cells : goal.invariant-cells
invariant-cells l = (k : ℕ) → k < l.j → InsideAt l.cells l.other k
