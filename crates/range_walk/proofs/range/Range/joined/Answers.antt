use Rattle.std.proofs.Common.{w64, rules, sym, ◌∙◌}
use Rattle.std.proofs.lemmas.Bool.{and_parts}
use Rattle.range_walk.proofs.Bits.{below_low, above_high, low_bits, high_bits}
use Rattle.range_walk.proofs.range.Range.joined.Goals as goal

pub returns-then-none_here-clause-first : goal.returns-then-none_here-clause-first
returns-then-none_here-clause-first c = λ v i. absurd (c.is_empty-none_here.ensures.none c.if-none_here.true v i)

pub returns-then-none_there-clause-second : goal.returns-then-none_there-clause-second
returns-then-none_there-clause-second c = λ v i. absurd (c.is_empty-none_there.ensures.none c.if-none_there.true v i)

pub returns-clause-first : goal.returns-clause-first
returns-clause-first c = λ v i. record {
  at_least = low_bits w64 c.min.result v (search rules) (below_low c.args.self.low c.min.result v (search rules) c.min.ensures.self_bound i.at_least);
  at_most = high_bits w64 c.max.result v (search rules) (above_high c.args.self.high c.max.result v (search rules) c.max.ensures.self_bound i.at_most);
  not_zero = λ e. i.not_zero (and_parts _ _ (sym c.both_hold.ensures ∙ e)).0;
}

pub returns-clause-second : goal.returns-clause-second
returns-clause-second c = λ v i. record {
  at_least = low_bits w64 c.min.result v (search rules) (below_low c.args.other.low c.min.result v (search rules) c.min.ensures.other_bound i.at_least);
  at_most = high_bits w64 c.max.result v (search rules) (above_high c.args.other.high c.max.result v (search rules) c.max.ensures.other_bound i.at_most);
  not_zero = λ e. i.not_zero (and_parts _ _ (sym c.both_hold.ensures ∙ e)).1;
}
