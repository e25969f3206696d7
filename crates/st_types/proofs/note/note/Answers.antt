use Rattle.std.proofs.Common.{◌≡◌, Some, sym, subst, refl}
use Rattle.st_types.specs.Faults.{fault}
use Rattle.st_types.specs.Notes.{Notes}
use Rattle.st_types.proofs.NoteLaws.{earlier}
use Rattle.st_types.proofs.note.note.Goals as goal

pub returns-then-is_before : goal.returns-then-is_before
returns-then-is_before c =
    let found = fault c.args.rule c.args.spot in
    subst (λ o. Notes o (Some found) (λ f. f ≡ found)) (sym c.in-Some.is) (earlier found c.in-Some.old (c.if-is_before.ensures.before refl))
