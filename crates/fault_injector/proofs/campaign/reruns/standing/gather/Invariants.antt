use Rattle.std.proofs.Common.{◌≡◌, ◌≤◌, ◌++◌, drop, length, vec_capacity}
use Rattle.fault_injector.specs.Standing.{faults_in}
use Rattle.fault_injector.proofs.campaign.reruns.standing.gather.Given as goal

abbrev pub invariant-faults : goal.invariant-faults
invariant-faults l = record {
  faults : faults_in l.cycle l.group ≡ l.faults.items ++ faults_in l.cycle (drop l.i l.group);
  few : length l.faults.items ≤ l.i;
  room : vec_capacity l.fn.faults ≤ vec_capacity l.faults;
}
