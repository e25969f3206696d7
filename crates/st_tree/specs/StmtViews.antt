-- StmtViews: what a statement of the program holds.
use Rattle.std.specs.Prelude.{List, [], ◌∷◌, Option, Some, None, map}
use Rattle.st_tree.specs.declared.stmt.Label.{Label}
use Rattle.st_tree.specs.declared.stmt.Arm.{Arm}
use Rattle.st_tree.specs.declared.stmt.Arms.{Arms}
use Rattle.st_tree.specs.declared.stmt.Branch.{Branch}
use Rattle.st_tree.specs.declared.stmt.Branches.{Branches}
use Rattle.st_tree.specs.declared.stmt.Stmts.{Stmts}
use Rattle.st_tree.specs.declared.stmt.Stmt.{Stmt, Row_of-Stmt, end_of-Stmt, more_of-Stmt, Held-Stmt-If-1, None', Some'}
use Rattle.st_tree.specs.declared.stmt.Stmt.TheBlock.{struct-Arms, struct-Branches, Row_of-Arm, end_of-Arm, more_of-Arm, Row_of-Branch, end_of-Branch}
use Rattle.st_tree.specs.declared.stmt.Stmt.TheBlock.{more_of-Branch}
use Rattle.st_tree.specs.declared.stmt.Stmt.TheVariants.{Assign, If', Case', For'}
use Rattle.st_tree.specs.ExprViews.{expr_tree, expr_tree_or_none}
use Rattle.st_tree.specs.StmtTree.{LabelTree, StmtTree, StmtTrees, ArmTrees, BranchTrees, OtherTree, assign, if_, case, for_, no_stmts, and_stmt, no_arms}
use Rattle.st_tree.specs.StmtTree.{and_arm, no_branches, and_branch, no_other, other}

-- labels
abbrev pub label_tree : Label → LabelTree
label_tree l = record { first = expr_tree l.first; last = expr_tree_or_none l.last }

abbrev pub label_trees : List Label → List LabelTree
label_trees ls = map label_tree ls

-- one statement
abbrev mutual
  pub stmt_tree : Stmt → StmtTree
  stmt_tree (Assign n e s) = assign n (expr_tree e) s
  stmt_tree (If' arms held) = if_ (arms_of arms) (other_of held)
  stmt_tree (Case' e branches held s) = case (expr_tree e) (branches_of branches) (other_of held) s
  stmt_tree (For' n ns f l by shape body s) = for_ n ns (expr_tree f) (expr_tree l) (expr_tree_or_none by) (row_of_stmts body) s

  pub row_of_stmts : {m : _} → Row_of-Stmt m → StmtTrees
  row_of_stmts end_of-Stmt = no_stmts
  row_of_stmts (more_of-Stmt s rest) = and_stmt (stmt_tree s) (row_of_stmts rest)

  pub other_of : Held-Stmt-If-1 → OtherTree
  other_of None' = no_other
  other_of (Some' shape body) = other (row_of_stmts body)

  pub arms_of : Arms → ArmTrees
  arms_of (struct-Arms shape arms) = row_of_arms arms

  pub row_of_arms : {m : _} → Row_of-Arm m → ArmTrees
  row_of_arms end_of-Arm = no_arms
  row_of_arms (more_of-Arm c shape body s rest) = and_arm (expr_tree c) (row_of_stmts body) s (row_of_arms rest)

  pub branches_of : Branches → BranchTrees
  branches_of (struct-Branches shape branches) = row_of_branches branches

  pub row_of_branches : {m : _} → Row_of-Branch m → BranchTrees
  row_of_branches end_of-Branch = no_branches
  row_of_branches (more_of-Branch l shape body rest) = and_branch (label_trees l.items.items) (row_of_stmts body) (row_of_branches rest)

-- lists of them
abbrev pub stmt_trees : List Stmt → StmtTrees
stmt_trees [] = no_stmts
stmt_trees (s ∷ ss) = and_stmt (stmt_tree s) (stmt_trees ss)

abbrev pub arm_trees : List Arm → ArmTrees
arm_trees [] = no_arms
arm_trees (a ∷ arms) = and_arm (expr_tree a.cond) (stmt_trees a.body.items.items) a.spot (arm_trees arms)

abbrev pub branch_trees : List Branch → BranchTrees
branch_trees [] = no_branches
branch_trees (b ∷ branches) = and_branch (label_trees b.labels.items.items) (stmt_trees b.body.items.items) (branch_trees branches)

abbrev pub other_tree : Option Stmts → OtherTree
other_tree None = no_other
other_tree (Some ss) = other (stmt_trees ss.items.items)
