use Rattle.std.proofs.Common.{arith}
use Rattle.vcp_base.specs.Values.{at}
use Rattle.range_walk.proofs.choices.through_comparison.Goals as goal

pub returns-then-pair : goal.returns-then-pair
returns-then-pair c = λ held row vs given fit le said.
    c.shared.ensures (at vs c.args.n) (c.made_of-first.ensures held row vs given fit le (c.by_comparison-a.ensures held row vs given fit le said))
    (c.made_of-second.ensures held row vs given fit le (c.by_comparison-b.ensures held row vs given fit le said))

pub returns : goal.returns
returns c = λ held row vs given fit le said. fit c.args.n c.earlier_range.result (omega (arith, le, c.requires.there)) c.earlier_range.ensures
