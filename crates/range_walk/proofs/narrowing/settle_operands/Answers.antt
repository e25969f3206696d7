use Rattle.std.proofs.Common.{◌<◌, ◌≤◌, length, arith}
use Rattle.op_graph.specs.GraphRun.{own}
use Rattle.range_walk.proofs.Putting.{operands_there, whole_value, whole_divisor}
use Rattle.range_walk.proofs.narrowing.settle_operands.Goals as goal

pub read_operands-before-requires : goal.read_operands-before-requires
read_operands-before-requires c =
    operands_there _ (length c.args.cells.now) c.args.i (length c.args.ranges.now) c.operation_at-op.result c.operation_at-op.ensures.reads c.requires.cells
    (omega (arith, c.requires.there))

pub put_operands-requires : goal.put_operands-requires
put_operands-requires c =
    operands_there _ (length c.args.cells.now) c.args.i (length c.args.ranges.now) c.operation_at-op.result c.operation_at-op.ensures.reads c.requires.cells
    (omega (arith, c.requires.there))

pub returns-clause-fits : goal.returns-clause-fits
returns-clause-fits c = λ held row vs hold given whole fit.
    let i = c.args.i in
    let op = c.operation_at-op.result in
    let le : length c.args.ranges.now ≤ length vs = omega (arith, whole, c.requires.many) in
    let lt : i < length vs = omega (arith, whole, c.requires.there) in
    let e = given.each i op lt c.operation_at-op.ensures.is in
    let are = c.operation_at-op.ensures.reads in
    let v = whole_value held row vs i op _ c.earlier_range-r.result e are (fit i c.earlier_range-r.result lt c.earlier_range-r.ensures) in
    let before = c.read_operands-before.ensures held vs hold fit le in
    let after = c.narrowed-after.ensures (own row op.kind op.imm) _ _ _ v before (whole_divisor held row vs i op _ e are) in
    c.put_operands.ensures.fits held vs le fit after
