use Rattle.std.proofs.Common.{◌≡◌, take}
use Rattle.vcp_study_core.proofs.same_graphs.same_names.Given as goal

abbrev pub invariant-loop-i : goal.invariant-loop-i
invariant-loop-i l = take l.i l.fn.a ≡ take l.i l.fn.b
