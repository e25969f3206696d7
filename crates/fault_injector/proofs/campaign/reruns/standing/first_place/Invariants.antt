use Rattle.std.proofs.Common.{◌≡◌, ◌<◌, ◌≤◌, ℕ, drop}
use Rattle.fault_script.specs.Changes.{acts_of}
use Rattle.fault_injector.proofs.campaign.reruns.standing.first_place.Given as goal

abbrev pub invariant-faults : goal.invariant-faults
invariant-faults l =
    let s = l.standing in
    record {
      within : l.first ≤ l.count;
      passed : (k : ℕ) → k < l.first → acts_of s.faults.now s.cycle k ≡ acts_of (drop l.i s.faults.now) s.cycle k;
    }
