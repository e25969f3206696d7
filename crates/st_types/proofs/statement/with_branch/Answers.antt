use Rattle.std.proofs.Common.{refl, ap, Some}
use Rattle.st_types.specs.Full.{not-full, is-full}
use Rattle.st_types.proofs.statement.with_branch.Goals as goal

pub returns-in_default : goal.returns-in_default
returns-in_default c = not-full (rw c.in_default.is refl)

pub returns-in_default-labels : goal.returns-in_default-labels
returns-in_default-labels c = not-full (rw (c.in-Some.is, c.in_default-labels.is) refl)

pub returns-in-Ok : goal.returns-in-Ok
returns-in-Ok c = not-full (rw (c.in-Some.is, c.in-Some-labels.is) (ap (λ x. Some x) c.in-Ok.ensures.tree))

pub returns-in-Err : goal.returns-in-Err
returns-in-Err c = is-full
