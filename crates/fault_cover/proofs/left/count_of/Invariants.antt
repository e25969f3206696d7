use Rattle.std.proofs.Common.{◌≡◌, ◌≤◌, take}
use Rattle.fault_cover.specs.Leftovers.{count_key}
use Rattle.fault_cover.proofs.left.count_of.Given as goal

abbrev pub invariant-keys : goal.invariant-keys
invariant-keys l = record {
  count : l.count ≡ count_key (take l.i l.keys) l.key;
  few : l.count ≤ l.i;
}
