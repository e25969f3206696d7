use Rattle.std.proofs.Common.{ap, ◌∙◌}
use Rattle.vcp_typed.specs.Items.{tarm_items}
use Rattle.vcp_typed.specs.TExprViews.{texpr_tree}
use Rattle.vcp_typed.specs.TStmtViews.{tstmt_trees, tarm_trees, tarms_and}
use Rattle.st_types.specs.Full.{not-full, is-full}
use Rattle.st_types.proofs.StmtNodes.{none-built, some-built}
use Rattle.st_types.proofs.statement.add_arm.Goals as goal

pub returns-in_default : goal.returns-in_default
returns-in_default c = not-full (λ x e. absurd (none-built texpr_tree _ x c.in_default.is e))

pub returns-in-Ok : goal.returns-in-Ok
returns-in-Ok c =
    not-full (λ x e. c.in-Ok.ensures.tree
    ∙ ap (λ y. tarms_and (tarm_trees (tarm_items c.args.list.now)) y (tstmt_trees c.args.body.items.items) c.args.spot) (some-built texpr_tree _ _ x c.in-Some.is e))

pub returns-in-Err : goal.returns-in-Err
returns-in-Err c = is-full
