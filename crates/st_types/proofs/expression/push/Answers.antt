use Rattle.std.proofs.Common.{refl}
use Rattle.st_types.specs.Full.{not-full}
use Rattle.st_types.proofs.expression.push.Goals as goal

pub returns-in_default : goal.returns-in_default
returns-in_default c = not-full (rw c.in_default.is refl)

pub returns-in_default-e : goal.returns-in_default-e
returns-in_default-e c = not-full (rw (c.in-Some.is, c.in_default-e.is) refl)
