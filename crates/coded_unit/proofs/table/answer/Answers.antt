use Rattle.std.proofs.Common.{sym, subst}
use Rattle.coded_unit.specs.Right.{LeavesRoom}
use Rattle.coded_unit.specs.Step.{StepLaw}
use Rattle.coded_unit.proofs.Sizes.{right_leaves_room}
use Rattle.coded_unit.proofs.Steps.{right_steps}
use Rattle.coded_unit.proofs.table.answer.Goals as goal

pub returns-clause-step : goal.returns-clause-step
returns-clause-step c = subst (StepLaw c.args.call.now) (sym c.right.ensures) (right_steps c.args.call.now)

pub returns-clause-room : goal.returns-clause-room
returns-clause-room c = subst LeavesRoom (sym c.right.ensures) (right_leaves_room c.args.call.now)
