use Rattle.std.proofs.Common.{pos, sym, subst}
use Rattle.range_walk.specs.Walking.{Said}
use Rattle.range_walk.proofs.Backward.{not_there}
use Rattle.range_walk.proofs.operand_ranges.says.Goals as goal

pub returns-then-truth : goal.returns-then-truth
returns-then-truth c = λ e v i. subst (λ t. Said t v) (sym c.if-truth.true) (c.is_only.ensures e v i)

pub returns : goal.returns
returns c = λ e v i. subst (λ t. Said t v) (sym c.if-truth.false) (not_there c.args.r v (pos 1) (c.excludes.ensures.out e) i)
