use Rattle.std.proofs.Common.{◌≡◌, ℕ, ◌<◌, length, slice_get}
use Rattle.range_walk.specs.Known.{is_any_named}
use Rattle.fault_cover.specs.Walks.{is_wanted}
use Rattle.fault_cover.proofs.survey.may_stop.Given as goal

abbrev pub invariant-operations : goal.invariant-operations
invariant-operations l = record {
  many : length l.wanted.items ≡ l.i;
  each : (n : ℕ) → n < l.i → is_wanted l.wanted.items n ≡ is_any_named (slice_get l.stops n);
}
