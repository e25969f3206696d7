use Rattle.il_front.proofs.statements.widened.Goals as goal

pub returns : goal.returns
returns c = c.made.ensures _ c.widened_from.ensures
