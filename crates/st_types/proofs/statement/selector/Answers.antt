use Rattle.st_types.proofs.SingleNodes.{no-selector, is-bool, is-number}
use Rattle.st_types.proofs.statement.selector.Goals as goal

pub returns-in_default : goal.returns-in_default
returns-in_default c = no-selector _ _ _ c.in_default.is

pub returns-then-is_bool : goal.returns-then-is_bool
returns-then-is_bool c = is-bool _ _ _ _ _ _ c.in-Some.is c.ty_of.ensures c.if-is_bool.ensures c.note.ensures

pub returns : goal.returns
returns c = is-number _ _ _ _ _ c.in-Some.is c.ty_of.ensures c.if-is_bool.ensures
