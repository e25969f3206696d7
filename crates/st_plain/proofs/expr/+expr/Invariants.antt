use Rattle.std.proofs.Common.{◌+◌, ◌*◌}
use Rattle.vcp_typed.specs.TExprViews.{texpr_tree, texpr_trees}
use Rattle.st_plain.specs.Weight.{expr_weight, exprs_weight}
use Rattle.st_plain.proofs.expr.+expr.Given as goal

abbrev pub decreases-evaluate : goal.decreases-evaluate
decreases-evaluate l = 2 * expr_weight (texpr_tree l.e.now)

abbrev pub decreases-operand : goal.decreases-operand
decreases-operand l = 2 * expr_weight (texpr_tree l.e.now) + 1

abbrev pub decreases-argument : goal.decreases-argument
decreases-argument l = 2 * exprs_weight (texpr_trees l.args.now)
