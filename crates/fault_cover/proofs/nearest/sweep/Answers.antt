use Rattle.std.proofs.Common.{◌≡◌, ℕ, suc, ◌-◌, ◌≤◌, ◌∙◌, subst, refl, arith}
use Rattle.op_graph.specs.Reads.{Reads}
use Rattle.fault_cover.specs.Walks.{kept, NotFurther}
use Rattle.fault_cover.proofs.Sweeping.{closed_more, found_more, reads_below, swept_more, there_is, within_more}
use Rattle.fault_cover.proofs.nearest.sweep.Goals as goal

pub operations-preserved : goal.operations-preserved
operations-preserved c =
    let g = c.args.graph.now in
    let i = c.operations.invariant in
    let q = c.len-count.result - 1 - c.operations.done in
    let earlier = λ (r k j : ℕ). c.operands_are_there.ensures.earlier g r k j c.len-count.ensures.rules.part in
    let there = there_is g.operations q (omega (arith, c.len-count.ensures.count, c.operations-test.true)) in
    let op = there.0 in
    let old = c.operations.found in
    let new = c.hand_on_from.new.found in
    let hands = c.hand_on_from.ensures.hands op there.1 in
    record {
      many = hands.many ∙ i.many;
      found = λ wanted are. found_more g q op there.1 earlier old new hands wanted (i.found wanted are);
      within = λ borders are. within_more g q op there.1 earlier old new hands borders (i.within borders are);
      swept = λ borders closed. swept_more g q op there.1 earlier old new hands borders c.args.found.now closed (i.swept borders closed);
      closed = λ n is.
          let same : q ≡ n = omega (arith, is, c.len-count.ensures.count, c.operations-test.true) in
          subst (λ m. (r k j : ℕ) → m ≤ r → Reads g.operations r k j → NotFurther (kept new k) (kept new r)) same
          (closed_more g q op there.1 earlier old new hands (suc q) refl c.hand_on_from.ensures.handed
          (i.closed (suc q) (omega (arith, c.len-count.ensures.count, c.operations-test.true))));
    }

pub returns-clause-reads : goal.returns-clause-reads
returns-clause-reads c = reads_below c.args.graph.now c.operations.found (λ q k j read.
    let low : 0 ≤ q = omega arith in
    c.operations.invariant.closed 0 (omega (arith, c.operations-test.false, c.operations.auto.done-end, c.len-count.ensures.count)) q k j low read)
