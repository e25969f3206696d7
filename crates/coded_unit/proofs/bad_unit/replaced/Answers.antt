use Rattle.std.proofs.Common.{ap, ◌∙◌, unwrap_or}
use Rattle.coded_unit.proofs.Replacements.{looked_up}
use Rattle.coded_unit.proofs.bad_unit.replaced.Goals as goal

pub returns-in-Some : goal.returns-in-Some
returns-in-Some c =
    ap (λ found. unwrap_or found c.args.right.now) (c.in-Some.ensures.value ∙ looked_up c.args.number c.args.replacements.now.entries)

pub returns-in-None : goal.returns-in-None
returns-in-None c =
    ap (λ found. unwrap_or found c.args.right.now) (c.in-None.ensures.value ∙ looked_up c.args.number c.args.replacements.now.entries)
