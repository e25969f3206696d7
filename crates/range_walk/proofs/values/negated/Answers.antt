use Rattle.std.proofs.Common.{SFits, w64, rules, neg_ℤ, ap, sym, ◌∙◌}
use Rattle.range_walk.proofs.Bits.{negative_low, negative_high}
use Rattle.range_walk.proofs.Conditions.{twice_negated}
use Rattle.range_walk.proofs.values.negated.Goals as goal

pub returns : goal.returns
returns c = λ x i.
    let low : SFits w64 c.args.a.low = search rules in
    let high : SFits w64 c.args.a.high = search rules in
    record {
      at_least = negative_low _ x high i.at_most;
      at_most = negative_high _ x low i.at_least;
      not_zero = λ e zero. i.not_zero e (sym (twice_negated x) ∙ ap neg_ℤ zero);
    }
