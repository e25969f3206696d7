use Rattle.std.proofs.Common.{◌≡◌, ◌++◌, drop, map}
use Rattle.range_walk.specs.RangeTable.{range_of_type}
use Rattle.range_walk.proofs.assumed.so_far.typed_ranges.Given as goal

abbrev pub invariant-columns : goal.invariant-columns
invariant-columns l = map (λ c. range_of_type c.ty) l.columns ≡ l.ranges.items ++ map (λ c. range_of_type c.ty) (drop l.i l.columns)
