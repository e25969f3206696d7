use Rattle.range_walk.proofs.Bits.{product_fits, product_is}
use Rattle.range_walk.proofs.values.times.Goals as goal

pub overflow_mul-result : goal.overflow_mul-result
overflow_mul-result c = product_fits c.args.x c.args.y c.ranges.x c.ranges.y

pub returns : goal.returns
returns c = product_is c.args.x c.args.y c.ranges.x c.ranges.y
