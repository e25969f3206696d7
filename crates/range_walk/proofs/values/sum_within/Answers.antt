use Rattle.std.proofs.Common.{◌+ℤ◌, SFits, to_z, of_z, rules, arith}
use mir.Syntax.{w128}
use Rattle.std.proofs.lemmas.Int.{ints}
use Rattle.range_walk.proofs.Integers.{saturates_below, saturates_above}
use Rattle.range_walk.proofs.values.sum_within.Goals as goal

pub returns : goal.returns
returns c = λ x y i j fits.
    let a = c.args.first in
    let b = c.args.second in
    let a_low : SFits w128 a.low = search rules in
    let a_high : SFits w128 a.high = search rules in
    let b_low : SFits w128 b.low = search rules in
    let b_high : SFits w128 b.high = search rules in
    let low : SFits w128 c.saturating_add.result = search rules in
    let high : SFits w128 c.saturating_add-2.result = search rules in
    let i_least = i.at_least in
    let i_most = i.at_most in
    let j_least = j.at_least in
    let j_most = j.at_most in
    let least = saturates_below (to_z w128 (of_z w128 a.low) +ℤ to_z w128 (of_z w128 b.low)) (x +ℤ y) (omega (arith, ints)) fits in
    let most = saturates_above (to_z w128 (of_z w128 a.high) +ℤ to_z w128 (of_z w128 b.high)) (x +ℤ y) (omega (arith, ints)) fits in
    c.between.ensures (x +ℤ y) (omega (arith, ints)) (omega (arith, ints))
