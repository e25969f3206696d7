use Rattle.std.proofs.Common.{refl, ◌∙◌, arith}
use Rattle.weight_audit.proofs.Marking.{all_marked, or_before}
use Rattle.weight_audit.proofs.marks.mark_operands.Goals as goal

pub mark_operand-requires-clause-there : goal.mark_operand-requires-clause-there
mark_operand-requires-clause-there c = λ reads. c.requires.there c.args.op.now.a (record { place = 0; operand = reads; names = refl })

pub mark_operand-requires-2-clause-there : goal.mark_operand-requires-2-clause-there
mark_operand-requires-2-clause-there c = λ reads.
    let inside = c.requires.there c.args.op.now.b (record { place = 1; operand = reads; names = refl }) in
    omega (arith, inside, c.mark_operand.ensures.many)

pub mark_operand-requires-3-clause-there : goal.mark_operand-requires-3-clause-there
mark_operand-requires-3-clause-there c = λ reads.
    let inside = c.requires.there c.args.op.now.c (record { place = 2; operand = reads; names = refl }) in
    omega (arith, inside, c.mark_operand.ensures.many, c.mark_operand-2.ensures.many)

pub returns : goal.returns
returns c = record {
  many = c.mark_operand-3.ensures.many ∙ (c.mark_operand-2.ensures.many ∙ c.mark_operand.ensures.many);
  kept = λ k was. c.mark_operand-3.ensures.kept k (c.mark_operand-2.ensures.kept k (c.mark_operand.ensures.kept k was));
  marked =
      λ k takes.
      let op = c.args.op.now in
      all_marked op c.mark_operand-3.new.marks k takes.place
      (λ reads. c.mark_operand-3.ensures.kept op.a (c.mark_operand-2.ensures.kept op.a (c.mark_operand.ensures.marked reads)))
      (λ reads. c.mark_operand-3.ensures.kept op.b (c.mark_operand-2.ensures.marked reads))
      c.mark_operand-3.ensures.marked takes.operand takes.names;
  sound =
      λ k now.
      or_before (c.mark_operand.ensures.sound k) (or_before (c.mark_operand-2.ensures.sound k) (c.mark_operand-3.ensures.sound k now));
}
