use Rattle.std.proofs.Common.{SFits, w64, rules}
use mir.Syntax.{w128}
use Rattle.range_walk.proofs.Bits.{size_low, size_high, size_most, size_least}
use Rattle.range_walk.proofs.values.size.Goals as goal

pub returns : goal.returns
returns c =
    let low : SFits w64 c.args.a.low = search rules in
    let high : SFits w64 c.args.a.high = search rules in
    let is : SFits w128 c.max.result = search rules in
    record {
      low = λ x i. size_low _ _ x low is c.max.ensures.other_bound i.at_least;
      high = λ x i. size_high _ _ x high is c.max.ensures.self_bound i.at_most;
      most = size_most _ _ _ high low is c.max.ensures.value;
      least = size_least _ _ high is c.max.ensures.self_bound;
    }
