use Rattle.std.proofs.Common.{inr, refl, arith}
use Rattle.graph_passes.specs.Marking.{Takes}
use Rattle.graph_passes.proofs.Queueing.{grows_on}
use Rattle.graph_passes.proofs.needed.mark_operands.Goals as goal

pub mark_operand-requires-clause-there : goal.mark_operand-requires-clause-there
mark_operand-requires-clause-there c = λ reads. c.requires.there c.args.op.now.a (record { place = 0; operand = reads; names = refl })

pub mark_operand-requires-2-clause-there : goal.mark_operand-requires-2-clause-there
mark_operand-requires-2-clause-there c = λ reads.
    let inside = c.requires.there c.args.op.now.b (record { place = 1; operand = reads; names = refl }) in
    omega (arith, inside, c.mark_operand.ensures.grows.many)

pub mark_operand-requires-3-clause-there : goal.mark_operand-requires-3-clause-there
mark_operand-requires-3-clause-there c = λ reads.
    let inside = c.requires.there c.args.op.now.c (record { place = 2; operand = reads; names = refl }) in
    omega (arith, inside, c.mark_operand.ensures.grows.many, c.mark_operand-2.ensures.grows.many)

pub returns-clause-grows : goal.returns-clause-grows
returns-clause-grows c =
    let t = Takes c.args.op.now in
    grows_on t t t _ _ _ _ _ _
    (grows_on t t t _ _ _ _ _ _ c.mark_operand.ensures.grows c.mark_operand-2.ensures.grows (λ k h. inr h) (λ k h. inr h))
    c.mark_operand-3.ensures.grows (λ k h. inr h) (λ k h. inr h)
