use Rattle.std.proofs.Common.{arith}
use Rattle.st_parser.proofs.LevelViews.{leaves}
use Rattle.st_parser.proofs.levels.leave.Goals as goal

pub returns : goal.returns
returns c =
    leaves _ _ _ c.pop.ensures.items (λ e. let k = rw e at c.pop.ensures.cases in omega (arith, k.1, c.pop.new.self.ok.0))
