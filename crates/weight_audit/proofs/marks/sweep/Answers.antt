use Rattle.std.proofs.Common.{◌≡◌, ℕ, suc, ◌-◌, ◌≤◌, ◌∙◌, subst, sym, refl, arith}
use Rattle.weight_audit.proofs.Marking.{ClosedFrom, closed_more, sound_more}
use Rattle.weight_audit.proofs.marks.sweep.Goals as goal

pub operations-preserved : goal.operations-preserved
operations-preserved c =
    let g = c.args.graph.now in
    let i = c.operations.invariant in
    let q = c.len-count.result - 1 - c.operations.done in
    let earlier = λ (r k j : ℕ). c.operands_are_there.ensures.earlier g r k j c.len-count.ensures.rules.part in
    let e = c.mark_from.ensures in
    record {
      many = e.many ∙ i.many;
      kept = λ k h. e.kept k (i.kept k h);
      closed = λ n is.
          let same : q ≡ n = omega (arith, is, c.len-count.ensures.count, c.operations-test.true) in
          subst (λ m. ClosedFrom g.operations m c.mark_from.new.marks) same
          (closed_more g.operations q (suc q) c.operations.marks c.mark_from.new.marks earlier refl e.kept e.marked e.sound
          (i.closed (suc q) (omega (arith, c.len-count.ensures.count, c.operations-test.true))));
      sound = λ out borders a. sound_more g out borders q c.operations.marks c.mark_from.new.marks e.sound (i.sound out borders a);
    }

pub returns : goal.returns
returns c = record {
  closed =
      λ q k j reads marked.
      let low : 0 ≤ q = omega arith in
      c.operations.invariant.closed 0 (omega (arith, c.operations-test.false, c.operations.auto.done-end, c.len-count.ensures.count)) q k j low reads marked;
  many = c.operations.invariant.many ∙ sym c.requires.count;
  kept = c.operations.invariant.kept;
  sound = c.operations.invariant.sound;
}
