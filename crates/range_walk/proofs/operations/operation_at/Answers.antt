use Rattle.std.proofs.Common.{refl}
use Rattle.range_walk.proofs.Operands.{earlier_is}
use Rattle.range_walk.proofs.Steps.{operands_are, operands_below}
use Rattle.range_walk.proofs.operations.operation_at.Goals as goal

pub returns : goal.returns
returns c =
    let g = c.args.graph.now in
    let op = c.operation.result in
    let is = c.operation.ensures in
    let entries = c.entries_keep_their_rules.ensures in
    let are = operands_are g c.args.i op entries c.len-count.ensures.rules is _ c.operands_are_there.ensures refl in
    let below = operands_below g c.args.i op entries c.len-count.ensures.rules is in
    record {
      is = is;
      reads = are;
      earlier = record {
        first = λ reads. earlier_is op.kind 0 _ c.args.i op.imm op.a reads are.first;
        second = λ reads. earlier_is op.kind 1 _ c.args.i op.imm op.b reads are.second;
        third = λ reads. earlier_is op.kind 2 _ c.args.i op.imm op.c reads are.third;
      };
      first = below.0;
      second = below.1;
      third = below.2;
    }
