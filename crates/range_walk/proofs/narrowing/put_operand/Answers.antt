use Rattle.std.proofs.Common.{◌<◌, length, arith}
use Rattle.range_walk.proofs.Operands.{other_there}
use Rattle.range_walk.proofs.Putting.{operand_at}
use Rattle.range_walk.proofs.narrowing.put_operand.Goals as goal

pub put-requires : goal.put-requires
put-requires c =
    let op = c.args.op.now in
    let is = c.reads_earlier-reads.ensures in
    other_there (length c.args.cells.now) (length c.args.ranges.now) op.kind op.imm c.args.n (is.other c.if-reads.true) (c.requires (is.has c.if-reads.true))

pub returns-then-reads-clause-fits : goal.returns-then-reads-clause-fits
returns-then-reads-clause-fits c = λ held vs le fit i.
    let op = c.args.op.now in
    let is = c.reads_earlier-reads.ensures in
    let lt : c.args.n < length c.args.ranges.now =
    other_there (length c.args.cells.now) (length c.args.ranges.now) op.kind op.imm c.args.n (is.other c.if-reads.true) (c.requires (is.has c.if-reads.true)) in
    c.put.ensures.fits vs (omega (arith, le, lt)) fit (operand_at c.args.r held vs op c.args.j c.args.n (is.has c.if-reads.true) (is.other c.if-reads.true) i)
