use Rattle.std.proofs.Common.{SFits, to_z, of_z, w64, rules, arith}
use Rattle.std.specs.Prelude.{int_lt}
use Rattle.std.proofs.lemmas.Int.{ints}
use Rattle.range_walk.proofs.ValueBounds.{below, tested, is_less_than, not_less_than}
use Rattle.range_walk.proofs.values.less.Goals as goal

pub returns : goal.returns
returns c = λ x y i j.
    let a_low : SFits w64 c.args.a.low = search rules in
    let a_high : SFits w64 c.args.a.high = search rules in
    let b_low : SFits w64 c.args.b.low = search rules in
    let b_high : SFits w64 c.args.b.high = search rules in
    let a_least = i.at_least in
    let a_most = i.at_most in
    let b_least = j.at_least in
    let b_most = j.at_most in
    c.truth_bounds.ensures (int_lt x y)
    (λ e.
    let less = below (to_z w64 (of_z w64 c.args.a.high)) (to_z w64 (of_z w64 c.args.b.low)) e in
    is_less_than x y (omega (arith, ints)))
    (λ e.
    let most = tested (to_z w64 (of_z w64 c.args.b.high)) (to_z w64 (of_z w64 c.args.a.low)) e in
    not_less_than x y (omega (arith, ints)))
