use Rattle.std.proofs.Common.{◌∙◌, arith}
use Rattle.std.proofs.lemmas.List.{take_all}
use Rattle.fault_injector.proofs.Keeping.{none_more, none_all}
use Rattle.fault_injector.proofs.runs.scripted.carried_of.Goals as goal

pub faults-preserved : goal.faults-preserved
faults-preserved c =
    let more =
    none_more c.args.group.now c.faults.carried.items c.push.new.self.items c.faults.i c.at.result c.at.ensures c.in_ok-push.ensures.items
    c.faults.invariant.faults c.faults.invariant.kept in
    record { faults = more.0; kept = more.1 }

pub returns-clause-kept : goal.returns-clause-kept
returns-clause-kept c =
    c.faults.invariant.kept
    ∙ none_all c.args.group.now c.faults.i (omega (arith, c.faults-test.false, c.faults.auto.i-end, c.len-i-end.ensures))

pub at-requires : goal.at-requires
at-requires c = omega (arith, c.faults-test.true, c.len-i-end.ensures)

pub returns-clause-faults : goal.returns-clause-faults
returns-clause-faults c =
    c.faults.invariant.faults ∙ take_all c.faults.i c.args.group.now (omega (arith, c.faults-test.false, c.faults.auto.i-end, c.len-i-end.ensures))
