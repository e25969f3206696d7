use Rattle.std.proofs.Common.{SFits, w64, rules, arith}
use Rattle.std.proofs.lemmas.Int.{ints}
use Rattle.range_walk.proofs.range.Range.without_value.Goals as goal

pub returns-then-self-k-3 : goal.returns-then-self-k-3
returns-then-self-k-3 c = λ v i other.
    let low : SFits w64 c.args.self.low = search rules in
    let high : SFits w64 c.args.self.high = search rules in
    let most = i.at_most in
    c.up_to.ensures v i (omega (arith, ints))

pub returns-then-k-eq0 : goal.returns-then-k-eq0
returns-then-k-eq0 c = λ v i other. c.without_zero.ensures v i (λ zero. other (omega (arith, ints)))

pub returns-then-self-k : goal.returns-then-self-k
returns-then-self-k c = λ v i other.
    let low : SFits w64 c.args.self.low = search rules in
    let least = i.at_least in
    c.above.ensures v i (omega (arith, ints))

pub returns : goal.returns
returns c = λ v i other. i
