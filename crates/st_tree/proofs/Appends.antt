-- The trees of a list with one item more are the trees of the list with one tree more.
use Rattle.std.proofs.Common.{◌≡◌, List, [], ◌∷◌, ◌++◌, refl, ap}
use Rattle.st_tree.specs.declared.expr.Expr.{Expr}
use Rattle.st_tree.specs.declared.stmt.Arm.{Arm}
use Rattle.st_tree.specs.declared.stmt.Branch.{Branch}
use Rattle.st_tree.specs.declared.stmt.Stmt.{Stmt}
use Rattle.st_tree.specs.ExprTree.{ExprTrees, and_expr}
use Rattle.st_tree.specs.StmtTree.{StmtTrees, ArmTrees, BranchTrees, and_stmt, and_arm, and_branch}
use Rattle.st_tree.specs.Appended.{exprs_and, stmts_and, arms_and, branches_and}
use Rattle.st_tree.specs.ExprViews.{expr_tree, expr_trees}
use Rattle.st_tree.specs.StmtViews.{label_trees, stmt_tree, stmt_trees, arm_trees, branch_trees}

pub exprs-append : (es : List Expr) (e : Expr) → expr_trees (es ++ e ∷ []) ≡ exprs_and (expr_trees es) (expr_tree e)
exprs-append [] e = refl
exprs-append (x ∷ xs) e = ap (λ (t : ExprTrees). and_expr (expr_tree x) t) (exprs-append xs e)

pub stmts-append : (ss : List Stmt) (s : Stmt) → stmt_trees (ss ++ s ∷ []) ≡ stmts_and (stmt_trees ss) (stmt_tree s)
stmts-append [] s = refl
stmts-append (x ∷ xs) s = ap (λ (t : StmtTrees). and_stmt (stmt_tree x) t) (stmts-append xs s)

pub arms-append : (arms : List Arm) (a : Arm)
    → arm_trees (arms ++ a ∷ []) ≡ arms_and (arm_trees arms) (expr_tree a.cond) (stmt_trees a.body.items.items) a.spot
arms-append [] a = refl
arms-append (x ∷ xs) a =
    ap (λ (t : ArmTrees). and_arm (expr_tree x.cond) (stmt_trees x.body.items.items) x.spot t) (arms-append xs a)

pub branches-append : (branches : List Branch) (b : Branch)
    → branch_trees (branches ++ b ∷ []) ≡ branches_and (branch_trees branches) (label_trees b.labels.items.items) (stmt_trees b.body.items.items)
branches-append [] b = refl
branches-append (x ∷ xs) b =
    ap (λ (t : BranchTrees). and_branch (label_trees x.labels.items.items) (stmt_trees x.body.items.items) t) (branches-append xs b)
