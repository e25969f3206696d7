use Rattle.std.proofs.Common.{sym, subst}
use Rattle.coded_unit.specs.Asked.{Asked}
use Rattle.fault_injector.proofs.Carrying.{with_operand_asked}
use Rattle.fault_injector.proofs.runs.scripted.changed.Goals as goal

pub returns-in-OperandAdd-clause-asked : goal.returns-in-OperandAdd-clause-asked
returns-in-OperandAdd-clause-asked c = λ asked. subst Asked (sym c.with_operand.ensures) (with_operand_asked c.args.call.now _ _ asked)

pub returns-in-OperandFrom-clause-asked : goal.returns-in-OperandFrom-clause-asked
returns-in-OperandFrom-clause-asked c = λ asked.
    subst Asked (sym c.with_operand-in-OperandFrom.ensures) (with_operand_asked c.args.call.now _ _ asked)

pub returns-in-Operator-clause-asked : goal.returns-in-Operator-clause-asked
returns-in-Operator-clause-asked c = λ asked.
    record { corr = asked.corr; stamp = asked.stamp; from = asked.from; ty = asked.ty }

pub returns-in-ResultAdd-clause-asked : goal.returns-in-ResultAdd-clause-asked
returns-in-ResultAdd-clause-asked c = λ asked. asked
