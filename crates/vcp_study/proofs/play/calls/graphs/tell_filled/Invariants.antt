use Rattle.std.proofs.Common.{◌≡◌, length}
use Rattle.vcp_study.proofs.play.calls.graphs.tell_filled.Given as goal

abbrev pub invariant-constants : goal.invariant-constants
invariant-constants l = length l.builder.stores ≡ length l.builder.loads
