use Rattle.std.proofs.Common.{◌≡◌, map}
use Rattle.vcp_typed.specs.TExprViews.{texpr_tree, texpr_trees}
use Rattle.st_types.specs.ExprSteps.{widened_to}
use Rattle.st_types.proofs.Wanted.{behind}
use Rattle.st_types.proofs.expression.widened_all.Given as goal

-- what is widened, with the rest widened behind it, is all widened
abbrev pub invariant-each : goal.invariant-each
invariant-each l =
    behind (texpr_trees l.out.items.items) (widened_to l.ty l.fn.rest (map texpr_tree l.e-iterator.rest.items)) ≡ widened_to l.fn.first l.fn.rest
    (map texpr_tree l.fn.list.items)
