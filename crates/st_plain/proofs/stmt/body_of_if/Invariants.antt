use Rattle.std.proofs.Common.{drop}
use Rattle.vcp_typed.specs.TStmtViews.{tarm_trees}
use Rattle.st_plain.proofs.Stmts.{ArmsLeft}
use Rattle.st_plain.proofs.stmt.body_of_if.Given as goal

abbrev pub invariant-each : goal.invariant-each
invariant-each l = ArmsLeft (tarm_trees (drop l.arm-index l.arms)) (tarm_trees l.arms) l.values
