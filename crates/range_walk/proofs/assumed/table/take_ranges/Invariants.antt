use Rattle.std.proofs.Common.{◌≡◌, ◌≤◌, ◌-◌, length}
use Rattle.range_walk.specs.RangeTable.{at_first}
use Rattle.range_walk.proofs.Records.{IsLeft}
use Rattle.range_walk.proofs.assumed.table.take_ranges.Given as goal

abbrev pub invariant-records : goal.invariant-records
invariant-records l = record {
  ranges : length l.told.ranges ≡ length l.columns;
  free : length l.told.free ≡ length l.columns;
  few : l.k ≤ length l.columns;
  left : IsLeft l.columns (at_first l.columns) l.fn.records.left l.told l.k l.records.left;
}

abbrev pub decreases-records : goal.decreases-records
decreases-records l = length l.columns - l.k
