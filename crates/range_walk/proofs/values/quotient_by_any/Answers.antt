use Rattle.std.proofs.Common.{SFits, rules, arith}
use mir.Syntax.{w128}
use Rattle.std.proofs.lemmas.Int.{ints}
use Rattle.std.specs.Prelude.{int_div}
use Rattle.range_walk.proofs.Integers.{sized}
use Rattle.range_walk.proofs.values.quotient_by_any.Goals as goal

pub returns : goal.returns
returns c = λ x y i.
    let fits : SFits w128 c.size-high.result = search rules in
    let is = sized x y c.size-high.result (c.size-high.ensures.low x i) (c.size-high.ensures.high x i) in
    let least = is.at_least in
    let most = is.at_most in
    c.between.ensures (int_div x y) (omega (arith, ints)) (omega (arith, ints))
