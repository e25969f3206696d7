use Rattle.std.proofs.Common.{subst}
use Rattle.range_walk.specs.Walking.{Parts}
use Rattle.range_walk.specs.Intervals.{IsIn}
use Rattle.range_walk.proofs.Conditions.{in_one}
use Rattle.range_walk.proofs.choices.connected.Goals as goal

pub returns-then-both : goal.returns-then-both
returns-then-both c = λ v parts.
    let two = subst (λ b. Parts b (IsIn c.args.first v) (IsIn c.args.second v)) c.if-both.true parts in
    c.shared.ensures v two.0 two.1

pub returns : goal.returns
returns c = λ v parts.
    in_one (subst (λ b. Parts b (IsIn c.args.first v) (IsIn c.args.second v)) c.if-both.false parts) (c.joined.ensures.first v) (c.joined.ensures.second v)
