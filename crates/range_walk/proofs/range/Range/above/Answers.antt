use Rattle.std.proofs.Common.{SFits, w64, rules, arith}
use Rattle.std.proofs.lemmas.Int.{ints}
use Rattle.range_walk.proofs.range.Range.above.Goals as goal

pub returns : goal.returns
returns c = λ v i lt.
    let fits : SFits w64 c.args.m = search rules in
    let high : SFits w64 c.args.self.high = search rules in
    let most = i.at_most in
    record { at_least = grind (arith, ints); at_most = omega (arith, ints); not_zero = i.not_zero }
