use Rattle.std.proofs.Common.{[], ap, refl, ◌∙◌}
use Rattle.st_lexer.specs.Spots.{spot_after}
use Rattle.il_front.proofs.head.spot_of.Goals as goal

pub returns-clause-is : goal.returns-clause-is
unfolding spot_after
returns-clause-is c = c.spot_behind.ensures.spot [] refl ∙ ap spot_after c.split_at.ensures.front
