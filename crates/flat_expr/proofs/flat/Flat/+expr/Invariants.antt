use Rattle.std.specs.Prelude.{suc}
use Rattle.vcp_typed.specs.TExprViews.{texpr_tree, texpr_trees}
use Rattle.flat_expr.proofs.Weight.{expr_weight, exprs_weight}
use Rattle.flat_expr.proofs.flat.Flat.+expr.Given as goal

abbrev pub decreases-expr : goal.decreases-expr
decreases-expr l = expr_weight (texpr_tree l.e.now)

abbrev pub decreases-call : goal.decreases-call
decreases-call l = suc (exprs_weight (texpr_trees l.args.now))

abbrev pub decreases-argument : goal.decreases-argument
decreases-argument l = exprs_weight (texpr_trees l.args.now)
