use Rattle.std.proofs.Common.{sym, ap, ◌∙◌, arith}
use Rattle.std.proofs.Math.Nat.{le_trans}
use Rattle.fault_script.specs.Changes.{acts_of}
use Rattle.fault_injector.proofs.Acts.{acts_beside, acts_in}
use Rattle.fault_injector.proofs.ListsOfReruns.{drop_behind}
use Rattle.fault_injector.proofs.campaign.reruns.standing.first_place.Goals as goal

pub faults-preserved : goal.faults-preserved
faults-preserved c =
    let i = c.faults.invariant in
    let s = c.args.standing.now in
    let found = c.earlier_op-first.ensures in
    record {
      within = le_trans found.within i.within;
      passed = λ k below.
          i.passed k (le_trans below found.within)
          ∙ acts_beside s.faults.now c.faults.i s.cycle k c.fault_at-fault.result c.fault_at-fault.ensures (found.passed k below);
    }

pub returns-clause-none : goal.returns-clause-none
returns-clause-none c = λ k below.
    let s = c.args.standing.now in
    sym (acts_in s.cycle s.group.now k)
    ∙ (ap (λ fs. acts_of fs s.cycle k) (sym c.requires)
    ∙ (c.faults.invariant.passed k below
    ∙ ap (λ fs. acts_of fs s.cycle k) (drop_behind s.faults.now c.faults.i (omega (arith, c.faults-test.false)))))
