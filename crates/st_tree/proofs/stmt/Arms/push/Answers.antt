use Rattle.std.proofs.Common.{ap, ◌∙◌, rules}
use Rattle.std.proofs.lemmas.Result.{on_ok_weaker}
use Rattle.st_tree.specs.declared.stmt.Stmt.{the_lemmas}
use Rattle.st_tree.specs.Items.{arm_items}
use Rattle.st_tree.specs.StmtViews.{arm_trees}
use Rattle.st_tree.proofs.Appends.{arms-append}
use Rattle.st_tree.proofs.stmt.Arms.push.Goals as goal

pub returns-clause-items : goal.returns-clause-items
returns-clause-items c = search (rules, the_lemmas)

pub returns-clause-tree : goal.returns-clause-tree
returns-clause-tree c = on_ok_weaker c.append.result (λ e. ap arm_trees e ∙ arms-append (arm_items c.args.self.now) c.args.item) (returns-clause-items c)
