use Rattle.std.proofs.Common.{ap, ◌∙◌, rules}
use Rattle.std.proofs.lemmas.Result.{on_ok_weaker}
use Rattle.vcp_typed.specs.declared.stmt.TStmt.{the_lemmas}
use Rattle.vcp_typed.specs.Items.{tarm_items}
use Rattle.vcp_typed.specs.TStmtViews.{tarm_trees}
use Rattle.vcp_typed.proofs.Appends.{arms-append}
use Rattle.vcp_typed.proofs.stmt.TArms.push.Goals as goal

pub returns-clause-items : goal.returns-clause-items
returns-clause-items c = search (rules, the_lemmas)

pub returns-clause-tree : goal.returns-clause-tree
returns-clause-tree c = on_ok_weaker c.append.result (λ e. ap tarm_trees e ∙ arms-append (tarm_items c.args.self.now) c.args.item) (returns-clause-items c)
