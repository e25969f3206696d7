use Rattle.std.proofs.Common.{ap, sym, ◌∙◌, arith}
use Rattle.fault_injector.specs.Carried.{faults_of, keeps_of}
use Rattle.fault_injector.proofs.Keeping.{kept_next, kept_turn, kept_all, faults_next, keeps_next}
use Rattle.fault_injector.proofs.runs.scripted.keep.Goals as goal

pub faults-preserved : goal.faults-preserved
faults-preserved c =
    kept_turn c.args.call.now c.args.given.now c.args.carried.now c.faults.carried c.faults.i c.index-carried-i.result c.kept_on.result
    (omega (arith, c.faults-test.true)) c.faults.invariant c.index-carried-i.is
    (c.kept_on.ensures ∙ ap (kept_next c.args.call.now c.args.given.now) (sym c.index-carried-i.is))

pub returns-clause-faults : goal.returns-clause-faults
returns-clause-faults c =
    ap faults_of (kept_all c.args.call.now c.args.given.now c.args.carried.now c.faults.carried c.faults.i c.faults.invariant
    (omega (arith, c.faults-test.false, c.faults.auto.i-end)))
    ∙ faults_next c.args.call.now c.args.given.now c.args.carried.now

pub returns-clause-kept : goal.returns-clause-kept
returns-clause-kept c =
    ap keeps_of (kept_all c.args.call.now c.args.given.now c.args.carried.now c.faults.carried c.faults.i c.faults.invariant
    (omega (arith, c.faults-test.false, c.faults.auto.i-end)))
    ∙ keeps_next c.args.call.now c.args.given.now c.args.carried.now
