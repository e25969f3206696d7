use Rattle.std.proofs.Common.{◌≡◌, length, ap, ◌∙◌, arith}
use Rattle.std.proofs.lemmas.List.{length-map}
use Rattle.fault_cover.specs.Beginnings.{start_at}
use Rattle.fault_cover.proofs.Adding.{at_first, none_more, one_more}
use Rattle.fault_cover.proofs.telling.comes.Goals as goal

pub starts-init : goal.starts-init
starts-init c =
    let g = c.args.graph.now in
    record {
      below = c.constants_are_in_range.ensures.positive g.profile;
      value = λ from o is there. at_first g (c.words_split_in_one_way.ensures g.profile) o.op c.args.borders from;
    }

pub starts-preserved : goal.starts-preserved
starts-preserved c =
    let g = c.args.graph.now in
    record {
      below = c.then_comes-sum.ensures.below;
      value = λ from o is there.
          one_more g (c.words_split_in_one_way.ensures g.profile) o.op c.args.borders c.starts.sum c.then_comes-sum.result c.starts.i from c.args.starts.now
          c.item-start.result is c.item-start.ensures (λ s start_is. c.then_comes-sum.ensures.value s o start_is there)
          (c.starts.invariant.value from o is there);
    }

pub returns-clause-value : goal.returns-clause-value
returns-clause-value c = λ from o is there.
    let g = c.args.graph.now in
    let many : length c.args.starts.now ≡ length from = ap length is ∙ length-map from (start_at g.profile) in
    none_more g (c.words_split_in_one_way.ensures g.profile) o.op c.args.borders c.starts.sum c.starts.i from c.starts.invariant.below
    (omega (arith, many, c.starts-test.false)) (c.starts.invariant.value from o is there)
