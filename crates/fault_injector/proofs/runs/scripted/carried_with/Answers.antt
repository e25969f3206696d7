use Rattle.std.proofs.Common.{arith, ◌∙◌}
use Rattle.std.proofs.lemmas.List.{take_all}
use Rattle.fault_injector.proofs.Keeping.{carried_more}
use Rattle.fault_injector.proofs.runs.scripted.carried_with.Goals as goal

pub faults-preserved : goal.faults-preserved
faults-preserved c =
    let more =
    carried_more c.args.group.now c.args.kept.now c.faults.carried.items c.push.new.self.items c.faults.i c.at-fault.result c.at-word.result
    c.at-fault.ensures c.at-word.ensures c.in_ok-push.ensures.items c.faults.invariant.faults c.faults.invariant.kept in
    record { faults = more.0; kept = more.1 }

pub at-fault-requires : goal.at-fault-requires
at-fault-requires c = omega (arith, c.faults-test.true, c.len-i-end.ensures)

pub at-word-requires : goal.at-word-requires
at-word-requires c = omega (arith, c.faults-test.true, c.len-i-end.ensures, c.requires)

pub returns-clause-faults : goal.returns-clause-faults
returns-clause-faults c =
    c.faults.invariant.faults ∙ take_all c.faults.i c.args.group.now (omega (arith, c.faults-test.false, c.faults.auto.i-end, c.len-i-end.ensures))

pub returns-clause-kept : goal.returns-clause-kept
returns-clause-kept c =
    c.faults.invariant.kept
    ∙ take_all c.faults.i c.args.kept.now (omega (arith, c.faults-test.false, c.faults.auto.i-end, c.len-i-end.ensures, c.requires))
