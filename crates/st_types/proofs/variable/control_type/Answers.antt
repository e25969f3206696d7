use Rattle.std.proofs.Common.{refl, sym}
use Rattle.st_types.proofs.NoteLaws.{quiet, pair, note-always}
use Rattle.st_types.proofs.ExprLaws.{none-some}
use Rattle.st_types.proofs.SingleNodes.{not-bool}
use Rattle.st_types.proofs.variable.control_type.Goals as goal

pub returns-in_default-clause-notes : goal.returns-in_default-clause-notes
returns-in_default-clause-notes c = pair _ _ _ _ _ c.name_fault.ensures (quiet _ _ (λ f h. none-some _ h.1.1))

pub returns-then-not-is_bool-clause-notes : goal.returns-then-not-is_bool-clause-notes
returns-then-not-is_bool-clause-notes c = pair _ _ _ _ _ c.name_fault.ensures (quiet _ _ (λ f h. not-bool _ _ c.if-not-is_bool.ensures h.1.1 h.1.2))

pub returns-clause-notes : goal.returns-clause-notes
returns-clause-notes c = pair _ _ _ _ _ c.name_fault.ensures (note-always _ _ _ _ c.note.ensures (_, refl, sym c.if-not-is_bool.ensures))
