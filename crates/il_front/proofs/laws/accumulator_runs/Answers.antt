use Rattle.il_front.proofs.Beside.{runs-are-one}
use Rattle.il_front.proofs.Sound.{listed-sound}
use Rattle.il_front.proofs.laws.accumulator_runs.Goals as goal

pub returns : goal.returns
returns c = λ text i rows h. runs-are-one i rows (listed-sound text h.tokens i h.code)
