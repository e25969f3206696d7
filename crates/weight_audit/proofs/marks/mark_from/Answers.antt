use Rattle.std.proofs.Common.{arith, subst, ◌<◌, length}
use Rattle.weight_audit.proofs.Places.{operand_inside}
use Rattle.weight_audit.proofs.marks.mark_from.Goals as goal

pub mark_operands-requires : goal.mark_operands-requires
mark_operands-requires c = record {
  there = λ k takes.
      let g = c.args.graph.now in
      let inside = operand_inside g c.args.q c.operation-op.result takes.place
      (λ q n j r. c.operands_are_there.ensures.earlier g q n j c.requires.graph.part r) c.operation-op.ensures takes.operand in
      let named = subst (λ n. n < length g.operations) takes.names inside in
      omega (arith, named, c.requires.count);
}
