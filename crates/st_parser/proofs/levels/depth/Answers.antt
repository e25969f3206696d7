use Rattle.std.proofs.Common.{arith}
use Rattle.st_parser.proofs.LevelViews.{length-levels}
use Rattle.st_parser.proofs.levels.depth.Goals as goal

pub returns : goal.returns
returns c = omega (arith, c.len.ensures, length-levels c.args.bodies.now.outer.items)
