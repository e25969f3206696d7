use Rattle.std.proofs.Common.{◌≡◌, ◌<◌, length}
use Rattle.std.specs.Prelude.{IfSome}
use Rattle.range_walk.specs.RangeTable.{place_below}
use Rattle.range_walk.proofs.assumed.so_far.place_named.Given as goal

abbrev pub invariant-columns : goal.invariant-columns
invariant-columns l = record {
  place : l.found ≡ place_below l.columns l.free l.name l.i;
  within : IfSome l.found (λ i. i < length l.columns);
}
