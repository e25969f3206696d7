use Rattle.std.proofs.Common.{SFits, to_z, of_z, sym, ◌∙◌, w64, rules, arith}
use Rattle.std.specs.Prelude.{int_div}
use mir.Syntax.{w128}
use Rattle.std.proofs.lemmas.Int.{ints, to_z-of_z}
use Rattle.range_walk.proofs.Bits.{of_bits}
use Rattle.range_walk.proofs.Integers.{spans, quotient_within}
use Rattle.range_walk.proofs.values.quotient_by.Goals as goal

pub returns : goal.returns
returns c = λ x i some.
    let a = c.args.a in
    let k = c.args.k in
    let first = c.divided-first.ensures (λ e. some (sym (to_z-of_z w64 k c.ranges.k) ∙ e)) ∙ of_bits w64 int_div a.low k (search rules) c.ranges.k in
    let second = c.divided-second.ensures (λ e. some (sym (to_z-of_z w64 k c.ranges.k) ∙ e)) ∙ of_bits w64 int_div a.high k (search rules) c.ranges.k in
    let f : SFits w128 c.divided-first.result = search rules in
    let g : SFits w128 c.divided-second.result = search rules in
    let low : SFits w128 c.min.result = search rules in
    let high : SFits w128 c.max.result = search rules in
    let is = quotient_within a.low a.high x k (to_z w128 (of_z w128 c.min.result)) (to_z w128 (of_z w128 c.max.result)) some i.at_least i.at_most
    (spans _ _ _ (omega (arith, ints)) (omega (arith, ints))) (spans _ _ _ (omega (arith, ints)) (omega (arith, ints))) in
    c.between.ensures (int_div x k) is.at_least is.at_most
