-- Appended: a list in a tree with one item more, at its end.
use Rattle.std.specs.Prelude.{List}
use Rattle.vcp_base.specs.declared.spot.Spot.{Spot}
use Rattle.st_tree.specs.ExprTree.{ExprTree, ExprTrees, no_exprs, and_expr}
use Rattle.st_tree.specs.StmtTree.{LabelTree, StmtTree, StmtTrees, ArmTrees, BranchTrees, no_stmts, and_stmt, no_arms, and_arm, no_branches, and_branch}

abbrev pub exprs_and : ExprTrees → ExprTree → ExprTrees
exprs_and no_exprs e = and_expr e no_exprs
exprs_and (and_expr x xs) e = and_expr x (exprs_and xs e)

abbrev pub stmts_and : StmtTrees → StmtTree → StmtTrees
stmts_and no_stmts s = and_stmt s no_stmts
stmts_and (and_stmt x xs) s = and_stmt x (stmts_and xs s)

abbrev pub arms_and : ArmTrees → ExprTree → StmtTrees → Spot → ArmTrees
arms_and no_arms c body s = and_arm c body s no_arms
arms_and (and_arm d other_body r rest) c body s = and_arm d other_body r (arms_and rest c body s)

abbrev pub branches_and : BranchTrees → List LabelTree → StmtTrees → BranchTrees
branches_and no_branches ls body = and_branch ls body no_branches
branches_and (and_branch ms other_body rest) ls body = and_branch ms other_body (branches_and rest ls body)
