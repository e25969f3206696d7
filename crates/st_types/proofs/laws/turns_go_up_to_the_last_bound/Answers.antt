use Rattle.st_types.proofs.TurnsAre.{turns-are}
use Rattle.st_types.proofs.laws.turns_go_up_to_the_last_bound.Goals as goal

pub returns : goal.returns
returns c = turns-are
