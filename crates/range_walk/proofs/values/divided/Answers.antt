use Rattle.range_walk.proofs.Bits.{quotient_is, zero_in_bits}
use Rattle.range_walk.proofs.values.divided.Goals as goal

pub returns-then-k-eq0 : goal.returns-then-k-eq0
returns-then-k-eq0 c = λ some. absurd (some (zero_in_bits c.args.k c.ranges.k c.if-k-eq0.true))

pub returns-else-k-eq0 : goal.returns-else-k-eq0
returns-else-k-eq0 c = λ some. quotient_is c.args.x c.args.k c.ranges.x c.ranges.k
