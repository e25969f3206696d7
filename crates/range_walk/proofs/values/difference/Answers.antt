use Rattle.std.proofs.Common.{◌-ℤ◌, SFits, w64, rules}
use Rattle.range_walk.proofs.Bits.{cast_fits, difference_fits, difference_low, difference_high}
use Rattle.range_walk.proofs.values.difference.Goals as goal

pub returns : goal.returns
returns c = λ x y i j.
    let a_low : SFits w64 c.args.a.low = search rules in
    let a_high : SFits w64 c.args.a.high = search rules in
    let b_low : SFits w64 c.args.b.low = search rules in
    let b_high : SFits w64 c.args.b.high = search rules in
    c.between.ensures (x -ℤ y) (difference_low _ _ x y a_low b_high i.at_least j.at_most) (difference_high _ _ x y a_high b_low i.at_most j.at_least)

pub overflow_cast-a : goal.overflow_cast-a
overflow_cast-a c = cast_fits c.args.a.low (search rules)

pub overflow_cast-b : goal.overflow_cast-b
overflow_cast-b c = cast_fits c.args.b.high (search rules)

pub overflow_sub-a : goal.overflow_sub-a
overflow_sub-a c = difference_fits c.args.a.low c.args.b.high (search rules) (search rules)

pub overflow_cast-a-2 : goal.overflow_cast-a-2
overflow_cast-a-2 c = cast_fits c.args.a.high (search rules)

pub overflow_cast-b-2 : goal.overflow_cast-b-2
overflow_cast-b-2 c = cast_fits c.args.b.low (search rules)

pub overflow_sub-a-2 : goal.overflow_sub-a-2
overflow_sub-a-2 c = difference_fits c.args.a.high c.args.b.low (search rules) (search rules)
