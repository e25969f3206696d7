use Rattle.std.proofs.Common.{ap, ◌∙◌}
use Rattle.std.proofs.lemmas.Result.{on_ok_weaker}
use Rattle.st_tree.specs.ExprViews.{expr_trees}
use Rattle.st_tree.proofs.Appends.{exprs-append}
use Rattle.st_tree.proofs.expr.Exprs.push.Goals as goal

pub returns-clause-tree : goal.returns-clause-tree
returns-clause-tree c = on_ok_weaker c.append.result (λ e. ap expr_trees e ∙ exprs-append c.args.self.now.items.items c.args.item) c.append.ensures.items
