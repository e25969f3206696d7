use Rattle.std.proofs.Common.{arith}
use Rattle.op_graph.specs.Reads.{Reads}
use Rattle.fault_cover.proofs.nearest.hand_on_from.Goals as goal

pub hand_on_all-requires : goal.hand_on_all-requires
hand_on_all-requires c = record {
  there = λ k takes.
      let read : Reads c.args.graph.now.operations c.args.q k takes.place =
      record { op = c.operation-op.result; there = c.operation-op.ensures; operand = takes.operand; names = takes.names } in
      let before = c.operands_are_there.ensures.earlier c.args.graph.now c.args.q k takes.place c.requires.graph.part read in
      omega (arith, before, c.requires.there, c.requires.count);
}
