use Rattle.std.proofs.Common.{◌≡◌, drop}
use Rattle.fault_script.specs.Changes.{acts_of}
use Rattle.fault_injector.proofs.campaign.reruns.standing.first_act.Given as goal

abbrev pub invariant-faults : goal.invariant-faults
invariant-faults l = acts_of l.faults l.cycle l.op ≡ acts_of (drop l.i l.faults) l.cycle l.op
