use Rattle.std.proofs.Common.{drop}
use Rattle.vcp_typed.specs.TStmtViews.{tbranch_trees}
use Rattle.st_plain.proofs.Stmts.{BranchesLeft}
use Rattle.st_plain.proofs.stmt.body_of_case.Given as goal

abbrev pub invariant-each : goal.invariant-each
invariant-each l = BranchesLeft l.v (tbranch_trees (drop l.branch-index l.branches)) (tbranch_trees l.branches)
