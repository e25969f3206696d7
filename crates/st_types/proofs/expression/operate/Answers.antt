use Rattle.std.proofs.Common.{refl}
use Rattle.st_types.specs.Full.{not-full, is-full}
use Rattle.st_types.proofs.SingleNodes.{no-left, no-right, clashing, operated}
use Rattle.st_types.proofs.expression.operate.Goals as goal

pub returns-in_default : goal.returns-in_default
returns-in_default c = not-full (no-left _ _ _ _ _ c.in_default.is)

pub returns-in_default-right : goal.returns-in_default-right
returns-in_default-right c = not-full (no-right _ _ _ _ _ _ c.in-Some.is c.in_default-right.is)

pub returns-in-None : goal.returns-in-None
returns-in-None c =
    not-full (clashing _ _ _ _ _ _ _ _ _ _ c.in-Some.is c.in-Some-right.is c.ty_of.ensures c.ty_of-2.ensures c.in-None.ensures c.note.ensures)

pub returns-in-Ok : goal.returns-in-Ok
returns-in-Ok c =
    not-full (operated _ _ _ _ _ _ _ _ _ _ _ _ _ c.in-Some.is c.in-Some-right.is c.ty_of.ensures c.ty_of-2.ensures c.in-Some-common.ensures
    refl refl c.in-Ok.ensures)

pub returns-in-Err : goal.returns-in-Err
returns-in-Err c = is-full
