use Rattle.std.proofs.Common.{◌≡◌, ◌+◌, ◌*◌, ◌≤◌, Some, subst, ap, sym, ◌∙◌, arith}
use Rattle.std.proofs.lemmas.List.{length-set}
use Rattle.op_graph.specs.Chain.{up}
use Rattle.op_graph.proofs.Chains.{up_add, up_falls, all_there, whole_chain, one_more_mark, next_stretch, stretch_is_whole}
use Rattle.op_graph.proofs.turns_round.turns_round.Goals as goal

pub stretches-smaller : goal.stretches-smaller
stretches-smaller c =
    let i = c.stretches.invariant in
    let falls = up_falls c.args.nodes.now c.stretches.node c.stretches.left c.requires.nodes (omega (arith, i.next, c.stretches-test.true)) in
    let whole : c.stretches.left ≡ 256 = stretch_is_whole c.stretches.left c.stretches.next i.few i.whole (omega (arith, c.stretches-test.true)) in
    omega (arith, i.next, falls, whole)

pub stretches-preserved : goal.stretches-preserved
stretches-preserved c =
    let i = c.stretches.invariant in
    let falls = up_falls c.args.nodes.now c.stretches.node c.stretches.left c.requires.nodes (omega (arith, i.next, c.stretches-test.true)) in
    let whole : c.stretches.left ≡ 256 = stretch_is_whole c.stretches.left c.stretches.next i.few i.whole (omega (arith, c.stretches-test.true)) in
    let here = next_stretch c.args.nodes.now c.args.n c.stretches.stretches c.stretches.node c.stretches.left c.stretches.next i.here i.next whole in
    let e = c.fill.ensures in
    record {
      marks = one_more_mark c.args.nodes.now c.args.n c.stretches.stretches c.stretches.node c.stretches.marks i.marks i.here
          (omega (arith, i.room, i.low, i.next, falls, whole, c.requires, c.stretches-test.true));
      here = here;
      some_here = λ some. omega (arith, c.stretches-test.true);
      filled = e.filled;
      some = e.some;
      few = e.few;
      next = e.next;
      whole = e.whole;
      room = length-set c.stretches.marks c.stretches.stretches c.stretches.node ∙ i.room;
      low = omega (arith, i.low, i.next, falls, whole);
    }

pub invariant_of-result : goal.invariant_of-result
invariant_of-result c =
    let i = c.stretches.invariant in
    record {
      marks = i.marks;
      stretch = λ k lt. i.filled k lt ∙ ap Some (ap (λ m. up c.args.nodes.now m k) i.here ∙ up_add c.args.nodes.now c.args.n (256 * c.stretches.stretches) k);
      there = all_there c.args.nodes.now c.args.n c.stretches.stretches c.stretches.left c.requires.nodes c.requires.there
          (λ some. subst (λ m. 1 ≤ m) i.here (i.some_here some))
          (λ k lt. subst (λ m. 1 ≤ m) (ap (λ m. up c.args.nodes.now m k) i.here ∙ up_add c.args.nodes.now c.args.n (256 * c.stretches.stretches) k)
          (i.some k lt));
      few_stretches = omega (arith, i.low, c.requires);
      few_left = i.few;
    }

pub returns : goal.returns
returns c =
    let i = c.stretches.invariant in
    let past : up c.args.nodes.now c.args.n (256 * c.stretches.stretches + c.stretches.left) ≡ 0 =
    sym (up_add c.args.nodes.now c.args.n (256 * c.stretches.stretches) c.stretches.left) ∙ ap (λ m. up c.args.nodes.now m c.stretches.left) (sym i.here)
    ∙ sym i.next ∙ omega (arith, c.stretches-test.false) in
    whole_chain c.args.nodes.now c.args.n (256 * c.stretches.stretches + c.stretches.left) c.requires.nodes
    (all_there c.args.nodes.now c.args.n c.stretches.stretches c.stretches.left c.requires.nodes c.requires.there
    (λ some. subst (λ m. 1 ≤ m) i.here (i.some_here some))
    (λ k lt. subst (λ m. 1 ≤ m) (ap (λ m. up c.args.nodes.now m k) i.here ∙ up_add c.args.nodes.now c.args.n (256 * c.stretches.stretches) k) (i.some k lt)))
    past
