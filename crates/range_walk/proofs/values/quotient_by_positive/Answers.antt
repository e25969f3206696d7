use Rattle.std.proofs.Common.{SFits, w64, rules}
use Rattle.std.specs.Prelude.{int_div}
use Rattle.range_walk.proofs.Bits.{below_low, above_high, wide_low, wide_high}
use Rattle.range_walk.proofs.Integers.{shrinks}
use Rattle.range_walk.proofs.values.quotient_by_positive.Goals as goal

pub returns : goal.returns
returns c = λ x y i some.
    let a_low : SFits w64 c.args.a.low = search rules in
    let a_high : SFits w64 c.args.a.high = search rules in
    let low : SFits w64 c.min.result = search rules in
    let high : SFits w64 c.max.result = search rules in
    let under = below_low _ c.min.result x a_low c.min.ensures.self_bound i.at_least in
    let over = above_high _ c.max.result x a_high c.max.ensures.self_bound i.at_most in
    let is = shrinks x y c.min.result c.max.result some c.min.ensures.other_bound c.max.ensures.other_bound under over in
    c.between.ensures (int_div x y) (wide_low c.min.result _ low is.at_least) (wide_high c.max.result _ high is.at_most)
