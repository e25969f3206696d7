use Rattle.st_parser.proofs.statements.take.Goals as goal

pub returns-in-ToSelect : goal.returns-in-ToSelect
returns-in-ToSelect c = rw c.in-ToSelect.is (c.selected.ensures _ _)

pub returns-in-ToBegin : goal.returns-in-ToBegin
returns-in-ToBegin c = rw c.in-ToBegin.is (c.loop_begins.ensures _ _)

pub returns-in-ToAssign : goal.returns-in-ToAssign
returns-in-ToAssign c = rw c.in-ToAssign.is c.assigned.ensures

pub returns-in-ToTest : goal.returns-in-ToTest
returns-in-ToTest c = rw c.in-ToTest.is c.tested.ensures

pub returns-in-ToEnd : goal.returns-in-ToEnd
returns-in-ToEnd c = rw c.in-ToEnd.is c.loop_ends.ensures

pub returns-in-ToStep : goal.returns-in-ToStep
returns-in-ToStep c = rw c.in-ToStep.is c.loop_steps.ensures
