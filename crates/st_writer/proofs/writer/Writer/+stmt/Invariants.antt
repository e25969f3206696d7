use Rattle.std.proofs.Common.{take}
use Rattle.st_writer.specs.Adds.{Adds}
use Rattle.st_writer.proofs.Lists.{all}
use Rattle.st_writer.proofs.Stmts.{stmt_at, arm_at, branch_at}
use Rattle.st_writer.proofs.writer.Writer.+stmt.Given as goal

abbrev pub invariant-stmts-loop-i : goal.invariant-stmts-loop-i
invariant-stmts-loop-i l = Adds l.initial.self l.self (all (stmt_at l.level) (take l.i l.stmts))

abbrev pub invariant-arms-loop-i : goal.invariant-arms-loop-i
invariant-arms-loop-i l = Adds l.initial.self l.self (all (arm_at l.level) (take l.i l.arms))

abbrev pub invariant-branches-loop-i : goal.invariant-branches-loop-i
invariant-branches-loop-i l = Adds l.initial.self l.self (all (branch_at l.inner) (take l.i l.branches))
