use Rattle.std.proofs.Common.{SFits, w64, rules}
use mir.Syntax.{w128}
use Rattle.std.specs.Prelude.{int_rem}
use Rattle.range_walk.proofs.Bits.{below_low, above_high, near_low, near_high}
use Rattle.range_walk.proofs.Integers.{rest_sized, rest_shrinks}
use Rattle.range_walk.proofs.values.rest.Goals as goal

pub returns : goal.returns
returns c = λ x y i j some.
    let a_low : SFits w64 c.args.a.low = search rules in
    let a_high : SFits w64 c.args.a.high = search rules in
    let first : SFits w64 c.min.result = search rules in
    let last : SFits w64 c.max-2.result = search rules in
    let under = below_low _ c.min.result x a_low c.min.ensures.self_bound i.at_least in
    let over = above_high _ c.max-2.result x a_high c.max-2.ensures.self_bound i.at_most in
    let size : SFits w128 c.size-below.result = search rules in
    let low : SFits w128 c.max.result = search rules in
    let high : SFits w128 c.min-2.result = search rules in
    let small = rest_sized x y c.size-below.result some (c.size-below.ensures.low y j) (c.size-below.ensures.high y j) in
    let near = rest_shrinks x y c.min.result c.max-2.result c.min.ensures.other_bound c.max-2.ensures.other_bound under over in
    let bounds = c.size-below.ensures in
    c.between.ensures (int_rem x y) (near_low _ _ _ _ first size low bounds.least bounds.most c.max.ensures.value near.at_least small.at_least)
    (near_high _ _ _ _ last size high bounds.least bounds.most c.min-2.ensures.value near.at_most small.at_most)
