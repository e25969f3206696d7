use Rattle.std.proofs.Common.{sym, subst}
use Rattle.range_walk.specs.Intervals.{IsIn}
use Rattle.range_walk.specs.Walking.{Said}
use Rattle.range_walk.proofs.operand_ranges.said_range.Goals as goal

pub returns-then-truth : goal.returns-then-truth
returns-then-truth c = λ x i said. subst (λ v. IsIn c.only.result v) (sym (subst (λ t. Said t x) c.if-truth.true said)) c.only.ensures

pub returns : goal.returns
returns c = λ x i said. c.without_value.ensures x i (subst (λ t. Said t x) c.if-truth.false said)
