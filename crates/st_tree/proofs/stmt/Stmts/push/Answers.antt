use Rattle.std.proofs.Common.{ap, ◌∙◌}
use Rattle.std.proofs.lemmas.Result.{on_ok_weaker}
use Rattle.st_tree.specs.StmtViews.{stmt_trees}
use Rattle.st_tree.proofs.Appends.{stmts-append}
use Rattle.st_tree.proofs.stmt.Stmts.push.Goals as goal

pub returns-clause-tree : goal.returns-clause-tree
returns-clause-tree c = on_ok_weaker c.append.result (λ e. ap stmt_trees e ∙ stmts-append c.args.self.now.items.items c.args.item) c.append.ensures.items
