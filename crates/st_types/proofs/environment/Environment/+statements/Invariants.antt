use Rattle.std.proofs.Common.{◌+◌, Option, Some, option_map, drop}
use Rattle.st_tree.specs.StmtViews.{stmt_tree, stmt_trees, arm_trees, branch_trees, other_tree}
use Rattle.vcp_typed.specs.Items.{tarm_items, tbranch_items}
use Rattle.vcp_typed.specs.TStmtTree.{TStmtTrees, TArmTrees, TBranchTrees}
use Rattle.vcp_typed.specs.TStmtViews.{tstmt_trees, tarm_trees, tbranch_trees}
use Rattle.st_types.specs.declared.note.Noted.{Noted}
use Rattle.st_types.specs.Full.{UnlessFull}
use Rattle.st_types.specs.ExprTyping.{both}
use Rattle.st_types.specs.StmtSteps.{TypesStmts, TypesArms, TypesBranches}
use Rattle.st_types.proofs.Weight.{stmt_weight, stmts_weight, arms_weight, branches_weight, other_weight}
use Rattle.st_types.proofs.StmtNodes.{stmts_glue, arms_glue, branches_glue}
use Rattle.st_types.proofs.environment.Environment.+statements.Given as goal

abbrev pub decreases-type_stmt : goal.decreases-type_stmt
decreases-type_stmt l = stmt_weight (stmt_tree l.s.now)

abbrev pub decreases-type_if : goal.decreases-type_if
decreases-type_if l = 1 + arms_weight (arm_trees l.arms.now) + other_weight (other_tree l.other.now)

abbrev pub decreases-type_case : goal.decreases-type_case
decreases-type_case l = 1 + branches_weight (branch_trees l.branches.now) + other_weight (other_tree l.other.now)

abbrev pub decreases-type_for : goal.decreases-type_for
decreases-type_for l = 1 + stmts_weight (stmt_trees l.body.now)

abbrev pub decreases-type_stmts : goal.decreases-type_stmts
decreases-type_stmts l = stmts_weight (stmt_trees l.stmts.now)

abbrev pub decreases-type_arms : goal.decreases-type_arms
decreases-type_arms l = arms_weight (arm_trees l.arms.now)

abbrev pub decreases-type_branches : goal.decreases-type_branches
decreases-type_branches l = branches_weight (branch_trees l.branches.now)

abbrev pub decreases-type_other : goal.decreases-type_other
decreases-type_other l = other_weight (other_tree l.other.now)

abbrev pub invariant-type_stmts-each : goal.invariant-type_stmts-each
invariant-type_stmts-each l =
    (end : Noted) (r : Option TStmtTrees)
    → UnlessFull l.noted.full end.full (TypesStmts l.self.names.now l.self.held.now (stmt_trees (drop l.s-index l.stmts)) l.noted.first end.first r)
    → UnlessFull l.initial.noted.full end.full (TypesStmts l.self.names.now l.self.held.now (stmt_trees l.stmts) l.initial.noted.first end.first
    (both stmts_glue (Some (tstmt_trees l.list.items.items)) r))

abbrev pub invariant-type_arms-each : goal.invariant-type_arms-each
invariant-type_arms-each l =
    (end : Noted) (r : Option TArmTrees)
    → UnlessFull l.noted.full end.full (TypesArms l.self.names.now l.self.held.now (arm_trees (drop l.arm-index l.arms)) l.noted.first end.first r)
    → UnlessFull l.initial.noted.full end.full (TypesArms l.self.names.now l.self.held.now (arm_trees l.arms) l.initial.noted.first end.first
    (both arms_glue (Some (tarm_trees (tarm_items l.list))) r))

abbrev pub invariant-type_branches-each : goal.invariant-type_branches-each
invariant-type_branches-each l =
    (end : Noted) (r : Option TBranchTrees)
    → UnlessFull l.noted.full end.full (TypesBranches l.self.names.now l.self.held.now l.ty (branch_trees (drop l.branch-index l.branches))
    l.noted.first end.first r)
    → UnlessFull l.initial.noted.full end.full (TypesBranches l.self.names.now l.self.held.now l.ty (branch_trees l.branches)
    l.initial.noted.first end.first (both branches_glue (option_map (λ b. tbranch_trees (tbranch_items b)) l.list) r))
