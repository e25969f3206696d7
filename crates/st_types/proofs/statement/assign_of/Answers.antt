use Rattle.st_types.specs.Full.{not-full, is-full}
use Rattle.st_types.proofs.SingleNodes.{no-variable, no-value, narrowing, not-free, assigned}
use Rattle.st_types.proofs.statement.assign_of.Goals as goal

pub returns-in_default : goal.returns-in_default
returns-in_default c = not-full (no-variable _ _ _ _ _ _ c.in_default.is)

pub returns-in_default-e : goal.returns-in_default-e
returns-in_default-e c = not-full (no-value _ _ _ _ _ _ _ c.in-Some.is c.in_default-e.is)

pub returns-then-not-within : goal.returns-then-not-within
returns-then-not-within c = not-full (narrowing _ _ _ _ _ _ _ _ _ _ c.in-Some.is c.in-Some-e.is c.ty_of.ensures c.if-not-within.ensures c.note.ensures)

pub returns-then-not-is_free : goal.returns-then-not-is_free
returns-then-not-is_free c = not-full (not-free _ _ _ _ _ _ _ _ _ c.in-Some.is c.in-Some-e.is c.ty_of.ensures c.if-not-within.ensures c.if-not-is_free.ensures)

pub returns-in-Ok : goal.returns-in-Ok
returns-in-Ok c = not-full (assigned _ _ _ _ _ _ _ _ _ _ _ c.in-Some.is c.in-Some-e.is c.ty_of.ensures c.if-not-within.ensures c.if-not-is_free.ensures
    c.in-Ok.ensures c.assign.ensures)

pub returns-in-Err : goal.returns-in-Err
returns-in-Err c = is-full
