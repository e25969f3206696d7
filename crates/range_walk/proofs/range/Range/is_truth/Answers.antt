use borrow.Author.Tests.{tests}
use Rattle.std.proofs.Common.{rules}
use Rattle.range_walk.proofs.range.Range.is_truth.Goals as goal

pub returns-then-self-ge0 : goal.returns-then-self-ge0
returns-then-self-ge0 c = search (tests, rules)

pub returns-else-self-ge0 : goal.returns-else-self-ge0
returns-else-self-ge0 c = search (tests, rules)
