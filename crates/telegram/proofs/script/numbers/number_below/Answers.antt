use Rattle.telegram.proofs.InRange.{below_some, below_none, below_most, below_cast}
use Rattle.telegram.proofs.script.numbers.number_below.Goals as goal

pub overflow_cast-result : goal.overflow_cast-result
overflow_cast-result c = below_cast c.args.many _ c.is_below.result c.ranges.many c.is_below.ensures c.if-is_below.true

pub returns-then-is_below : goal.returns-then-is_below
returns-then-is_below c = record {
  number = below_some c.args.many c.args.v c.is_below.result c.ranges.many c.ranges.v c.is_below.ensures c.if-is_below.true;
  below = below_most c.args.many c.args.v c.is_below.result c.ranges.many c.is_below.ensures c.if-is_below.true;
}

pub returns-else-is_below : goal.returns-else-is_below
returns-else-is_below c = record {
  number = below_none c.args.many c.args.v c.is_below.result c.ranges.many c.ranges.v c.is_below.ensures c.if-is_below.false;
  below = tt;
}
