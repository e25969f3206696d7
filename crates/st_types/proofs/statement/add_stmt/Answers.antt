use Rattle.std.proofs.Common.{ap, ◌∙◌}
use Rattle.vcp_typed.specs.TStmtViews.{tstmt_tree, tstmt_trees, tstmts_and}
use Rattle.st_types.specs.Full.{not-full, is-full}
use Rattle.st_types.proofs.StmtNodes.{none-built, some-built}
use Rattle.st_types.proofs.statement.add_stmt.Goals as goal

pub returns-in_default : goal.returns-in_default
returns-in_default c = not-full (λ x e. absurd (none-built tstmt_tree _ x c.in_default.is e))

pub returns-in-Ok : goal.returns-in-Ok
returns-in-Ok c =
    not-full (λ x e. c.in-Ok.ensures.tree ∙ ap (λ y. tstmts_and (tstmt_trees c.args.list.now.items.items) y) (some-built tstmt_tree _ _ x c.in-Some.is e))

pub returns-in-Err : goal.returns-in-Err
returns-in-Err c = is-full
