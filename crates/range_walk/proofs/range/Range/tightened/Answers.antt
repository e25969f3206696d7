use Rattle.std.proofs.Common.{rules}
use Rattle.range_walk.proofs.range.Range.tightened.Goals as goal

pub returns-then-self-lt0 : goal.returns-then-self-lt0
returns-then-self-lt0 c = search rules

pub returns-then-not-self : goal.returns-then-not-self
returns-then-not-self c = search rules

pub returns-then-self-eq0-2 : goal.returns-then-self-eq0-2
returns-then-self-eq0-2 c = search rules

pub returns-else-self-eq0-2 : goal.returns-else-self-eq0-2
returns-else-self-eq0-2 c = search rules
