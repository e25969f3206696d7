use Rattle.std.proofs.Common.{◌≡◌, ◌<◌, ℕ, false}
use Rattle.fault_injector.specs.Touched.{mark}
use Rattle.fault_injector.proofs.campaign.reruns.passing.none_marked.Given as goal

abbrev pub invariant-marks : goal.invariant-marks
invariant-marks l = (k : ℕ) → k < l.i → mark l.marks k ≡ false
