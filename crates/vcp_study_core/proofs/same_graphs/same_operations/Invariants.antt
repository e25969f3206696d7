use Rattle.std.proofs.Common.{◌≡◌, map, take}
use Rattle.vcp_study_core.specs.SameGraphs.{unplaced}
use Rattle.vcp_study_core.proofs.same_graphs.same_operations.Given as goal

abbrev pub invariant-loop-i : goal.invariant-loop-i
invariant-loop-i l = map unplaced (take l.i l.fn.a) ≡ map unplaced (take l.i l.fn.b)
