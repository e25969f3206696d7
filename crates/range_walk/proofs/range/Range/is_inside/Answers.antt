use borrow.Author.Tests.{tests}
use Rattle.std.proofs.Common.{rules}
use Rattle.range_walk.proofs.range.Range.is_inside.Goals as goal

pub returns-then-self : goal.returns-then-self
returns-then-self c = search (tests, rules)

pub returns-else-self : goal.returns-else-self
returns-else-self c = search (tests, rules)

pub returns-else-self-other : goal.returns-else-self-other
returns-else-self-other c = search (tests, rules)
