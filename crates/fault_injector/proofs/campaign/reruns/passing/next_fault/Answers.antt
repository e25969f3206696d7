use Rattle.std.proofs.Common.{false, refl, ◌∙◌}
use Rattle.std.proofs.Math.Nat.{le_trans}
use Rattle.fault_injector.proofs.Acts.{acts_passed}
use Rattle.fault_injector.proofs.campaign.reruns.passing.next_fault.Goals as goal

pub faults-preserved : goal.faults-preserved
faults-preserved c =
    let i = c.faults.invariant in
    let found = c.earlier-next.ensures in
    record {
      from = found.from;
      within = le_trans found.within i.within;
      passed = λ m k above below.
          i.passed m k above (le_trans below found.within)
          ∙ acts_passed c.args.group.now c.faults.i m c.at-fault.result false c.at-fault.ensures (found.passed m above below) refl k;
    }
