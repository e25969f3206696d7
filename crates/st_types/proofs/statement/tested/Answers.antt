use Rattle.st_types.proofs.SingleNodes.{no-test, is-no-test, is-test}
use Rattle.st_types.proofs.statement.tested.Goals as goal

pub returns-in_default : goal.returns-in_default
returns-in_default c = no-test _ _ _ c.in_default.is

pub returns-then-not-is_bool : goal.returns-then-not-is_bool
returns-then-not-is_bool c = is-no-test _ _ _ _ _ _ c.in-Some.is c.ty_of.ensures c.if-not-is_bool.ensures c.note.ensures

pub returns : goal.returns
returns c = is-test _ _ _ _ _ c.in-Some.is c.ty_of.ensures c.if-not-is_bool.ensures
