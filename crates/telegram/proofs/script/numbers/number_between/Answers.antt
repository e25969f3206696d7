use Rattle.telegram.proofs.InRange.{between_some, between_none, between_least, between_most, between_cast}
use Rattle.telegram.proofs.script.numbers.number_between.Goals as goal

pub overflow_cast-result : goal.overflow_cast-result
overflow_cast-result c = between_cast c.args.least c.args.most _ c.is_between.result c.ranges.most c.is_between.ensures c.if-is_between.true

pub returns-then-is_between : goal.returns-then-is_between
returns-then-is_between c = record {
  number = between_some c.args.least c.args.most c.args.v c.is_between.result c.ranges.v c.is_between.ensures c.if-is_between.true;
  least = between_least c.args.least c.args.most _ c.is_between.result c.is_between.ensures c.if-is_between.true;
  most = between_most c.args.least c.args.most _ c.is_between.result c.is_between.ensures c.if-is_between.true;
}

pub returns-else-is_between : goal.returns-else-is_between
returns-else-is_between c = record {
  number = between_none c.args.least c.args.most c.args.v c.is_between.result c.ranges.v c.is_between.ensures c.if-is_between.false;
  least = tt;
  most = tt;
}
