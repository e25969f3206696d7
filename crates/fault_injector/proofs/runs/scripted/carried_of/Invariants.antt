use Rattle.std.proofs.Common.{◌≡◌, take}
use Rattle.fault_script.specs.Changes.{none_kept}
use Rattle.fault_injector.specs.Carried.{faults_of, keeps_of}
use Rattle.fault_injector.proofs.runs.scripted.carried_of.Given as goal

abbrev pub invariant-faults : goal.invariant-faults
invariant-faults l = record {
  faults : faults_of l.carried.items ≡ take l.i l.group;
  kept : keeps_of l.carried.items ≡ take l.i (none_kept l.group);
}
