use Rattle.std.proofs.Common.{refl, rules}
use Rattle.st_types.specs.Full.{not-full, is-full}
use Rattle.st_types.proofs.labels.with_label.Goals as goal

pub returns-in_default : goal.returns-in_default
returns-in_default c = not-full (rw c.in_default.is refl)

pub returns-in_default-label : goal.returns-in_default-label
returns-in_default-label c = not-full (rw (c.in-Some.is, c.in_default-label.is) refl)

pub returns-in-Ok : goal.returns-in-Ok
returns-in-Ok c = not-full (search rules)

pub returns-in-Err : goal.returns-in-Err
returns-in-Err c = is-full
