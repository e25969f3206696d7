use Rattle.std.proofs.Common.{◌≡◌, ℤ, List, length}
use Rattle.vcp_base.specs.Values.{at}
use Rattle.op_graph.specs.Lists.{cells}
use Rattle.weight_audit.specs.Sweeping.{AreResidues}
use Rattle.weight_audit.proofs.Sweep.{CrossedUpTo}
use Rattle.weight_audit.proofs.numbers.weigh_stores.Given as goal

abbrev pub invariant-cells : goal.invariant-cells
invariant-cells l = record {
  many : length l.numbers ≡ length l.graph.operations;
  are : (weights : List ℤ) → AreResidues l.profile (length l.graph.operations) (at weights) l.later
      → CrossedUpTo l.profile (length l.graph.operations) (cells l.graph) weights l.i l.numbers;
}
