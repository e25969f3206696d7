use Rattle.std.proofs.Common.{sym, ap, ◌∙◌, arith}
use Rattle.fault_script.specs.Changes.{acts_of}
use Rattle.fault_injector.proofs.Acts.{acts_here, acts_behind}
use Rattle.fault_injector.proofs.ListsOfReruns.{drop_behind}
use Rattle.fault_injector.proofs.campaign.reruns.standing.first_act.Goals as goal

pub faults-preserved : goal.faults-preserved
faults-preserved c =
    c.faults.invariant
    ∙ acts_behind c.args.faults.now c.faults.i c.args.cycle c.args.op c.fault_at-fault.result c.stands_at.result
    c.fault_at-fault.ensures c.stands_at.ensures c.if-stands_at.false

pub returns-then-stands_at : goal.returns-then-stands_at
returns-then-stands_at c =
    sym (c.faults.invariant
    ∙ acts_here c.args.faults.now c.faults.i c.args.cycle c.args.op c.fault_at-fault.result c.stands_at.result
    c.fault_at-fault.ensures c.stands_at.ensures c.if-stands_at.true)

pub returns : goal.returns
returns c =
    sym (c.faults.invariant
    ∙ ap (λ fs. acts_of fs c.args.cycle c.args.op)
    (drop_behind c.args.faults.now c.faults.i (omega (arith, c.faults-test.false))))
