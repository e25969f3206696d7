use Rattle.std.proofs.Common.{◌≡◌, ℕ, suc, length, slice_get, Some}
use Rattle.weight_audit.specs.Audit.{Distance}
use Rattle.weight_audit.specs.Sweeping.{IsDistance}
use Rattle.weight_audit.proofs.weigh.distances.Given as goal

abbrev pub invariant-borders : goal.invariant-borders
invariant-borders l = record {
  many : length l.distances ≡ suc l.after;
  each : (borders : ℕ) (d : Distance) → slice_get l.distances borders ≡ Some d → IsDistance l.graph l.out borders d;
}
