use Rattle.std.proofs.Common.{◌≤◌, length, arith}
use Rattle.range_walk.proofs.narrowing.put_operands.Goals as goal

pub put_operand-requires-2 : goal.put_operand-requires-2
put_operand-requires-2 c = rw c.put_operand.ensures.many (c.requires.second)

pub put_operand-requires-3 : goal.put_operand-requires-3
put_operand-requires-3 c = rw (c.put_operand-2.ensures.many, c.put_operand.ensures.many) (c.requires.third)

pub returns-clause-fits : goal.returns-clause-fits
returns-clause-fits c = λ held vs le fit o.
    let le2 : length c.put_operand.new.ranges ≤ length vs = omega (arith, le, c.put_operand.ensures.many) in
    let le3 : length c.put_operand-2.new.ranges ≤ length vs = omega (arith, le2, c.put_operand-2.ensures.many) in
    c.put_operand-3.ensures.fits held vs le3
    (c.put_operand-2.ensures.fits held vs le2 (c.put_operand.ensures.fits held vs le fit o.first) o.second) o.third
