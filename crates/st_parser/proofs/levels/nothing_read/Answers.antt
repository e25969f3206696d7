use Rattle.st_parser.proofs.LevelViews.{levels-none}
use Rattle.st_parser.proofs.levels.nothing_read.Goals as goal

pub returns-clause-outer : goal.returns-clause-outer
returns-clause-outer c = rw c.new.ensures.items levels-none
