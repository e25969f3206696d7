use Rattle.st_types.specs.Full.{not-full, is-full}
use Rattle.st_types.proofs.SingleNodes.{no-operand, sign-clashes, signed-is}
use Rattle.st_types.proofs.expression.sign.Goals as goal

pub returns-in_default : goal.returns-in_default
returns-in_default c = not-full (no-operand _ _ _ _ c.in_default.is)

pub returns-in-None : goal.returns-in-None
returns-in-None c = not-full (sign-clashes _ _ _ _ _ _ _ c.in-Some.is c.ty_of.ensures c.in-None.ensures c.note.ensures)

pub returns-in-Ok : goal.returns-in-Ok
returns-in-Ok c = not-full (signed-is _ _ _ _ _ _ _ _ c.in-Some.is c.ty_of.ensures c.in-Some-signed.ensures c.in-Ok.ensures)

pub returns-in-Err : goal.returns-in-Err
returns-in-Err c = is-full
