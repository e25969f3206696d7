use Rattle.std.proofs.Common.{◌≤◌, ◌-◌}
use Rattle.fault_sites.proofs.Rising.{RisesSo}
use Rattle.fault_sites.proofs.rests.first_rising.Given as goal

abbrev pub invariant-readings : goal.invariant-readings
invariant-readings l = record {
  so : RisesSo l.rs l.first (l.i - 1);
  low : l.first ≤ l.i - 1;
}
