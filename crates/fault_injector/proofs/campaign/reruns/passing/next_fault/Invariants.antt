use Rattle.std.proofs.Common.{◌≡◌, ◌<◌, ◌≤◌, ℕ, drop}
use Rattle.fault_script.specs.Changes.{acts_of}
use Rattle.fault_injector.proofs.campaign.reruns.passing.next_fault.Given as goal

abbrev pub invariant-faults : goal.invariant-faults
invariant-faults l = record {
  from : l.n ≤ l.next;
  within : l.next ≤ l.last;
  passed : (m k : ℕ) → l.n ≤ m → m < l.next → acts_of l.group m k ≡ acts_of (drop l.i l.group) m k;
}
