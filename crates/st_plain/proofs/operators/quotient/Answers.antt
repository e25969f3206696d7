use Rattle.st_plain.proofs.Wide.{by-zero, divided, widens, quotient-fits, quotient-is}
use Rattle.st_plain.proofs.operators.quotient.Goals as goal

pub overflow_cast-a : goal.overflow_cast-a
overflow_cast-a c = widens c.args.a c.ranges.a

pub overflow_cast-b : goal.overflow_cast-b
overflow_cast-b c = widens c.args.b c.ranges.b

pub returns : goal.returns
returns c = divided c.args.ty c.args.spot c.in_range.result c.args.b _ _ c.in_range.ensures
    (quotient-is c.args.a c.args.b c.ranges.a c.ranges.b) c.if-b-eq0.false

pub nonzero_div-a : goal.nonzero_div-a
nonzero_div-a c = quotient-fits c.args.a c.args.b c.ranges.a c.ranges.b c.if-b-eq0.false

pub returns-then-b-eq0 : goal.returns-then-b-eq0
returns-then-b-eq0 c =
    by-zero c.args.b c.args.spot c.division_by_zero.result _ c.ranges.b c.if-b-eq0.true c.division_by_zero.ensures.kind c.division_by_zero.ensures.spot
