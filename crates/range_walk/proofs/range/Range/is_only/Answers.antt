use borrow.Author.Tests.{tests}
use Rattle.std.proofs.Common.{rules}
use Rattle.range_walk.proofs.range.Range.is_only.Goals as goal

pub returns-then-self-v : goal.returns-then-self-v
returns-then-self-v c = search (tests, rules)

pub returns-else-self-v : goal.returns-else-self-v
returns-else-self-v c = search (tests, rules)
