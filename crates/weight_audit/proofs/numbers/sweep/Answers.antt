use Rattle.std.proofs.Common.{◌≡◌, suc, ◌-◌, ◌∙◌, length, subst, arith}
use Rattle.weight_audit.specs.Sweeping.{AreResidues}
use Rattle.weight_audit.proofs.Places.{operand_inside, reads_before}
use Rattle.weight_audit.proofs.Sweep.{handed_on, one_more, all_have}
use Rattle.weight_audit.proofs.numbers.sweep.Goals as goal

pub hand_on_all-requires : goal.hand_on_all-requires
hand_on_all-requires c = record {
  there = λ j reads.
      let g = c.args.graph.now in
      let inside = operand_inside g _ c.operation.result j
      (λ q k i r. c.operands_are_there.ensures.earlier g q k i c.len-count.ensures.rules.part r) c.operation.ensures reads in
      omega (arith, inside, c.operations.invariant.many);
}

pub operations-preserved : goal.operations-preserved
operations-preserved c =
    let g = c.args.graph.now in
    let i = c.operations.invariant in
    let q = c.len-count.result - 1 - c.operations.done in
    let count = length g.operations in
    record {
      many = c.hand_on_all.ensures.many ∙ i.many;
      are = λ leaving n e a.
          let same : q ≡ n = omega (arith, e, c.len-count.ensures.count, c.operations-test.true) in
          let before = i.are leaving (suc q) (omega (arith, c.len-count.ensures.count, c.operations-test.true)) a in
          subst (λ m. AreResidues c.args.profile count (handed_on leaving g.operations m) c.hand_on_all.new.numbers) same
          (one_more c.args.profile leaving g.operations q c.operation.result c.operations.numbers c.hand_on_all.new.numbers
          (c.words_split_in_one_way.ensures c.args.profile) c.operation.ensures before
          (c.hand_on_all.ensures.residues count (handed_on leaving g.operations (suc q)) before));
    }

pub returns : goal.returns
returns c = λ leaving a.
    let g = c.args.graph.now in
    all_have c.args.profile leaving g.operations c.operations.numbers
    (reads_before g (λ q k i r. c.operands_are_there.ensures.earlier g q k i c.len-count.ensures.rules.part r))
    (c.operations.invariant.are leaving 0 (omega (arith, c.operations-test.false, c.operations.auto.done-end, c.len-count.ensures.count)) a)
