use Rattle.std.proofs.Common.{◌≡◌}
use Rattle.fault_injector.proofs.Keeping.{half, kept_next}
use Rattle.fault_injector.proofs.runs.scripted.keep.Given as goal

abbrev pub invariant-faults : goal.invariant-faults
invariant-faults l = l.carried ≡ half (kept_next l.call l.given) l.i l.fn.carried
