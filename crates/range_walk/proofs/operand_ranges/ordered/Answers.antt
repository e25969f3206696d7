use Rattle.std.proofs.Common.{SFits, pos, w64, rules}
use Rattle.range_walk.proofs.Backward.{not_there, less_by, no_less_by}
use Rattle.range_walk.proofs.Bits.{cast_fits, less_fits, more_fits, wide_low, wide_high, less_high, more_low}
use Rattle.range_walk.proofs.Integers.{le_trans}
use Rattle.range_walk.proofs.operand_ranges.ordered.Goals as goal

pub returns-then-yes : goal.returns-then-yes
returns-then-yes c = λ x y z i o.
    let a_low : SFits w64 c.args.o.first.low = search rules in
    let b_high : SFits w64 c.args.o.second.high = search rules in
    let least = o.first.at_least in
    let most = o.second.at_most in
    let less = less_by x y (c.is_only-yes.ensures c.if-yes.true _ i) in
    c.new.ensures x y z (c.met.ensures x o.first (c.between-less.ensures x (wide_low _ x a_low least) (less_high _ x y b_high less most)))
    (c.met-then-yes.ensures y o.second (c.between-more.ensures y (more_low _ x y a_low least less) (wide_high _ y b_high most))) o.third

pub returns-then-no : goal.returns-then-no
returns-then-no c = λ x y z i o.
    let a_high : SFits w64 c.args.o.first.high = search rules in
    let b_low : SFits w64 c.args.o.second.low = search rules in
    let least = o.second.at_least in
    let most = o.first.at_most in
    let less = no_less_by x y (not_there c.args.r _ (pos 1) (c.excludes-no.ensures.out c.if-no.true) i) in
    c.new-then-no.ensures x y z
    (c.met-then-no.ensures x o.first (c.between-both.ensures x (wide_low _ x b_low (le_trans _ y x least less)) (wide_high _ x a_high most)))
    (c.met-then-no-2.ensures y o.second (c.between-both.ensures y (wide_low _ y b_low least) (wide_high _ y a_high (le_trans y x _ less most)))) o.third

pub overflow_cast-a : goal.overflow_cast-a
overflow_cast-a c = cast_fits c.args.o.first.low (search rules)

pub overflow_cast-b : goal.overflow_cast-b
overflow_cast-b c = cast_fits c.args.o.second.high (search rules)

pub overflow_sub-b : goal.overflow_sub-b
overflow_sub-b c = less_fits c.args.o.second.high (search rules)

pub overflow_cast-a-then-yes : goal.overflow_cast-a-then-yes
overflow_cast-a-then-yes c = cast_fits c.args.o.first.low (search rules)

pub overflow_add-a : goal.overflow_add-a
overflow_add-a c = more_fits c.args.o.first.low (search rules)

pub overflow_cast-b-then-yes : goal.overflow_cast-b-then-yes
overflow_cast-b-then-yes c = cast_fits c.args.o.second.high (search rules)

pub overflow_cast-b-then-no : goal.overflow_cast-b-then-no
overflow_cast-b-then-no c = cast_fits c.args.o.second.low (search rules)

pub overflow_cast-a-then-no : goal.overflow_cast-a-then-no
overflow_cast-a-then-no c = cast_fits c.args.o.first.high (search rules)
