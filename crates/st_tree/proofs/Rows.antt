-- The children that a list of a node holds, as the trees of its items.
use Rattle.std.proofs.Common.{◌≡◌, Option, Some, None, Vec, Global, refl, sym, ap, ◌∙◌}
use Rattle.vcp_base.specs.declared.spot.Spot.{Spot}
use Rattle.vcp_base.specs.declared.text.Text.{Text}
use Rattle.st_tree.specs.declared.expr.Exprs.{Exprs}
use Rattle.st_tree.specs.declared.expr.Expr.{Expr, Call, Row_of-Expr, end_of-Expr, more_of-Expr, items-the_row-Expr, items_hidden-the_row-Expr-0}
use Rattle.st_tree.specs.declared.expr.Expr.TheBlock.{hidden-the_row-Expr-0}
use Rattle.st_tree.specs.declared.stmt.Arms.{Arms, out-Arms}
use Rattle.st_tree.specs.declared.stmt.Branches.{Branches, out-Branches}
use Rattle.st_tree.specs.declared.stmt.Stmts.{Stmts}
use Rattle.st_tree.specs.declared.stmt.Stmt.{Stmt, Row_of-Stmt, end_of-Stmt, more_of-Stmt, items-the_row-Stmt, items_hidden-the_row-Stmt-0}
use Rattle.st_tree.specs.declared.stmt.Stmt.{items_shown-the_row-Stmt-0, back-Stmt-If-1, If, Case, For}
use Rattle.st_tree.specs.declared.stmt.Stmt.TheBlock.{Row_of-Arm, end_of-Arm, more_of-Arm, items-the_row-Arm, Row_of-Branch, end_of-Branch, more_of-Branch}
use Rattle.st_tree.specs.declared.stmt.Stmt.TheBlock.{items-the_row-Branch, hidden-the_row-Stmt-0, struct-Arms, struct-Branches, items_shown-the_row-Arm-1}
use Rattle.st_tree.specs.declared.stmt.Stmt.TheBlock.{items_shown-the_row-Branch-2}
use Rattle.st_tree.specs.ExprTree.{ExprTrees, call, and_expr}
use Rattle.st_tree.specs.StmtTree.{StmtTrees, if_, case, for_, and_stmt, and_arm, and_branch, other}
use Rattle.st_tree.specs.ExprViews.{expr_tree, expr_trees, expr_tree_or_none, row_of_exprs}
use Rattle.st_tree.specs.StmtViews.{label_trees, stmt_tree, stmt_trees, arm_trees, branch_trees, other_tree, row_of_stmts, row_of_arms, row_of_branches}
use Rattle.st_tree.specs.StmtViews.{arms_of, branches_of, other_of}
use Rattle.st_tree.specs.Items.{arm_items, branch_items}

row-exprs : (n : _) (k : Row_of-Expr n) → row_of_exprs k ≡ expr_trees (items-the_row-Expr n k)
row-exprs _ end_of-Expr = refl
row-exprs _ (more_of-Expr e rest) = ap (λ (t : ExprTrees). and_expr (expr_tree e) t) (row-exprs _ rest)

pub exprs-are : (v : Vec Expr Global) → row_of_exprs (hidden-the_row-Expr-0 v) ≡ expr_trees v.items
exprs-are v = row-exprs _ (hidden-the_row-Expr-0 v) ∙ ap expr_trees (items_hidden-the_row-Expr-0 v)

pub tree-call : (n : Text) (es : Exprs) (s : Spot) → expr_tree (Call n es s) ≡ call n (expr_trees es.items.items) s
tree-call n es s = ap (λ (t : ExprTrees). call n t s) (exprs-are es.items)

row-stmts : (n : _) (k : Row_of-Stmt n) → row_of_stmts k ≡ stmt_trees (items-the_row-Stmt n k)
row-stmts _ end_of-Stmt = refl
row-stmts _ (more_of-Stmt s rest) = ap (λ (t : StmtTrees). and_stmt (stmt_tree s) t) (row-stmts _ rest)

pub stmts-are : (v : Vec Stmt Global) → row_of_stmts (hidden-the_row-Stmt-0 v) ≡ stmt_trees v.items
stmts-are v = row-stmts _ (hidden-the_row-Stmt-0 v) ∙ ap stmt_trees (items_hidden-the_row-Stmt-0 v)

row-arms : (n : _) (k : Row_of-Arm n) → row_of_arms k ≡ arm_trees (items-the_row-Arm n k)
row-arms _ end_of-Arm = refl
row-arms _ (more_of-Arm c shape body s rest) =
    λ i. and_arm (expr_tree c) ((row-stmts _ body ∙ ap stmt_trees (sym (items_shown-the_row-Stmt-0 shape body))) i) s (row-arms _ rest i)

pub arms-are : (arms : Arms) → arms_of arms ≡ arm_trees (arm_items arms)
unfolding out-Arms denote.Hole.Carrier.out Rattle.st_tree.specs.declared.stmt.Stmt.TheBlock.shown-the_row-Arm-1
arms-are (struct-Arms shape arms) = row-arms _ arms ∙ ap arm_trees (sym (items_shown-the_row-Arm-1 shape arms))

row-branches : (n : _) (k : Row_of-Branch n) → row_of_branches k ≡ branch_trees (items-the_row-Branch n k)
row-branches _ end_of-Branch = refl
row-branches _ (more_of-Branch l shape body rest) =
    λ i. and_branch (label_trees l.items.items) ((row-stmts _ body ∙ ap stmt_trees (sym (items_shown-the_row-Stmt-0 shape body))) i) (row-branches _ rest i)

pub branches-are : (branches : Branches) → branches_of branches ≡ branch_trees (branch_items branches)
unfolding out-Branches denote.Hole.Carrier.out Rattle.st_tree.specs.declared.stmt.Stmt.TheBlock.shown-the_row-Branch-2
branches-are (struct-Branches shape branches) = row-branches _ branches ∙ ap branch_trees (sym (items_shown-the_row-Branch-2 shape branches))

pub other-is : (o : Option Stmts) → other_of (back-Stmt-If-1 o) ≡ other_tree o
other-is None = refl
other-is (Some ss) = ap (λ (t : StmtTrees). other t) (stmts-are ss.items)

pub tree-if : (arms : Arms) (o : Option Stmts) → stmt_tree (If arms o) ≡ if_ (arm_trees (arm_items arms)) (other_tree o)
tree-if arms o = λ i. if_ (arms-are arms i) (other-is o i)

pub tree-case : (e : Expr) (branches : Branches) (o : Option Stmts) (s : Spot)
    → stmt_tree (Case e branches o s) ≡ case (expr_tree e) (branch_trees (branch_items branches)) (other_tree o) s
tree-case e branches o s = λ i. case (expr_tree e) (branches-are branches i) (other-is o i) s

pub tree-for : (n : Text) (ns : Spot) (f l : Expr) (by : Option Expr) (body : Stmts) (s : Spot)
    → stmt_tree (For n ns f l by body s) ≡ for_ n ns (expr_tree f) (expr_tree l) (expr_tree_or_none by) (stmt_trees body.items.items) s
tree-for n ns f l by body s =
    ap (λ (t : StmtTrees). for_ n ns (expr_tree f) (expr_tree l) (expr_tree_or_none by) t s) (stmts-are body.items)
