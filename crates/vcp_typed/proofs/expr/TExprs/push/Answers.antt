use Rattle.std.proofs.Common.{ap, ◌∙◌}
use Rattle.std.proofs.lemmas.Result.{on_ok_weaker}
use Rattle.vcp_typed.specs.TExprViews.{texpr_trees}
use Rattle.vcp_typed.proofs.Appends.{exprs-append}
use Rattle.vcp_typed.proofs.expr.TExprs.push.Goals as goal

pub returns-clause-tree : goal.returns-clause-tree
returns-clause-tree c = on_ok_weaker c.append.result (λ e. ap texpr_trees e ∙ exprs-append c.args.self.now.items.items c.args.item) c.append.ensures.items
