-- Weight: a number that falls from a statement to its parts, by which the typing ends.
use Rattle.std.specs.Prelude.{ℕ, ◌+◌}
use Rattle.st_tree.specs.StmtTree.{StmtTree, StmtTrees, ArmTrees, BranchTrees, OtherTree, assign, if_, case, for_, no_stmts, and_stmt, no_arms, and_arm}
use Rattle.st_tree.specs.StmtTree.{no_branches, and_branch, no_other, other}

abbrev mutual
  pub stmt_weight : StmtTree → ℕ
  stmt_weight (assign f e s) = 0
  stmt_weight (if_ arms o) = 2 + arms_weight arms + other_weight o
  stmt_weight (case e branches o s) = 2 + branches_weight branches + other_weight o
  stmt_weight (for_ f p first last by body s) = 2 + stmts_weight body

  pub stmts_weight : StmtTrees → ℕ
  stmts_weight no_stmts = 0
  stmts_weight (and_stmt s ss) = 1 + stmt_weight s + stmts_weight ss

  pub arms_weight : ArmTrees → ℕ
  arms_weight no_arms = 0
  arms_weight (and_arm e body s arms) = 1 + stmts_weight body + arms_weight arms

  pub branches_weight : BranchTrees → ℕ
  branches_weight no_branches = 0
  branches_weight (and_branch ls body branches) = 1 + stmts_weight body + branches_weight branches

  pub other_weight : OtherTree → ℕ
  other_weight no_other = 0
  other_weight (other body) = 1 + stmts_weight body
