use Rattle.std.proofs.Common.{arith}
use Rattle.std.proofs.lemmas.Result.{IfOk-from_err}
use Rattle.fault_cover.proofs.Surveying.{all_able, one_able}
use Rattle.fault_cover.proofs.survey.may_stop.Goals as goal

pub operations-preserved : goal.operations-preserved
operations-preserved c =
    let v = c.operations.invariant in
    let more =
    one_able c.args.stops.now c.operations.wanted.items c.push.new.self.items c.operations.i c.item-why.result c.are_any.result c.item-why.ensures
    c.are_any.ensures v.many v.each
    c.in_ok-push.ensures.items in
    record { many = more.0; each = more.1 }

pub returns-clause-able : goal.returns-clause-able
returns-clause-able c =
    let v = c.operations.invariant in
    all_able c.args.stops.now c.operations.wanted.items c.operations.i v.many v.each (omega (arith, c.operations-test.false, c.operations.auto.i-end))

pub returns-in_err-push-clause-many : goal.returns-in_err-push-clause-many
returns-in_err-push-clause-many c = IfOk-from_err c.from_residual.result _ c.from_residual.ensures.0

pub returns-in_err-push-clause-able : goal.returns-in_err-push-clause-able
returns-in_err-push-clause-able c = IfOk-from_err c.from_residual.result _ c.from_residual.ensures.0
