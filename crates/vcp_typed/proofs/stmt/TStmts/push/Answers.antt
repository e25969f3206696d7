use Rattle.std.proofs.Common.{ap, ◌∙◌}
use Rattle.std.proofs.lemmas.Result.{on_ok_weaker}
use Rattle.vcp_typed.specs.TStmtViews.{tstmt_trees}
use Rattle.vcp_typed.proofs.Appends.{stmts-append}
use Rattle.vcp_typed.proofs.stmt.TStmts.push.Goals as goal

pub returns-clause-tree : goal.returns-clause-tree
returns-clause-tree c = on_ok_weaker c.append.result (λ e. ap tstmt_trees e ∙ stmts-append c.args.self.now.items.items c.args.item) c.append.ensures.items
