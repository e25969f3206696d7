use Rattle.std.proofs.Common.{refl}
use Rattle.st_types.proofs.DeclNodes.{name-judges}
use Rattle.st_types.proofs.ExprLaws.{some-none}
use Rattle.st_types.proofs.NoteLaws.{quiet, note-always}
use Rattle.st_types.proofs.initial.name.Goals as goal

pub returns-in-None : goal.returns-in-None
returns-in-None c = name-judges c.args.names.now c.args.name.now c.args.spot _ _ _ c.in-None.ensures (note-always _ _ _ _ c.note.ensures refl)

pub returns-in-Some : goal.returns-in-Some
returns-in-Some c = name-judges c.args.names.now c.args.name.now c.args.spot _ _ _ c.in-Some.ensures (quiet _ _ (λ f h. some-none _ h.1))
