-- Weight: a number that falls from a statement to its parts, by which flattening ends.
use Rattle.std.specs.Prelude.{ℕ, ◌+◌}
use Rattle.vcp_typed.specs.TStmtTree.{TStmtTree, TStmtTrees, TArmTrees, TBranchTrees, TOtherTree, assign, if_, case, for_, no_tstmts, and_tstmt, no_tarms}
use Rattle.vcp_typed.specs.TStmtTree.{and_tarm, no_tbranches, and_tbranch, no_tother, tother}

abbrev mutual
  pub stmt_weight : TStmtTree → ℕ
  stmt_weight (assign slot e spot) = 0
  stmt_weight (if_ arms o) = 2 + arms_weight arms + other_weight o
  stmt_weight (case e branches o spot) = 2 + branches_weight branches + other_weight o
  stmt_weight (for_ slot first by n body spot) = 2 + stmts_weight body

  pub stmts_weight : TStmtTrees → ℕ
  stmts_weight no_tstmts = 0
  stmts_weight (and_tstmt s ss) = 1 + stmt_weight s + stmts_weight ss

  pub arms_weight : TArmTrees → ℕ
  arms_weight no_tarms = 0
  arms_weight (and_tarm e body spot arms) = 1 + stmts_weight body + arms_weight arms

  pub branches_weight : TBranchTrees → ℕ
  branches_weight no_tbranches = 0
  branches_weight (and_tbranch ls body branches) = 1 + stmts_weight body + branches_weight branches

  pub other_weight : TOtherTree → ℕ
  other_weight no_tother = 0
  other_weight (tother body) = stmts_weight body
