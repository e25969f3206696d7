use Rattle.std.proofs.Common.{◌+ℤ◌, SFits, w64, rules}
use Rattle.range_walk.proofs.Bits.{cast_fits, sum_fits, sum_low, sum_high}
use Rattle.range_walk.proofs.values.sum.Goals as goal

pub returns : goal.returns
returns c = λ x y i j.
    let a_low : SFits w64 c.args.a.low = search rules in
    let a_high : SFits w64 c.args.a.high = search rules in
    let b_low : SFits w64 c.args.b.low = search rules in
    let b_high : SFits w64 c.args.b.high = search rules in
    c.between.ensures (x +ℤ y) (sum_low _ _ x y a_low b_low i.at_least j.at_least) (sum_high _ _ x y a_high b_high i.at_most j.at_most)

pub overflow_cast-a : goal.overflow_cast-a
overflow_cast-a c = cast_fits c.args.a.low (search rules)

pub overflow_cast-b : goal.overflow_cast-b
overflow_cast-b c = cast_fits c.args.b.low (search rules)

pub overflow_add-a : goal.overflow_add-a
overflow_add-a c = sum_fits c.args.a.low c.args.b.low (search rules) (search rules)

pub overflow_cast-a-2 : goal.overflow_cast-a-2
overflow_cast-a-2 c = cast_fits c.args.a.high (search rules)

pub overflow_cast-b-2 : goal.overflow_cast-b-2
overflow_cast-b-2 c = cast_fits c.args.b.high (search rules)

pub overflow_add-a-2 : goal.overflow_add-a-2
overflow_add-a-2 c = sum_fits c.args.a.high c.args.b.high (search rules) (search rules)
