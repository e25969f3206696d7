use Rattle.std.proofs.Common.{◌≡◌, ℕ, ◌<◌, get_or}
use Rattle.st_tree.specs.declared.stmt.Arm.{Arm}
use Rattle.st_tree.specs.declared.stmt.Branch.{Branch}
use Rattle.st_tree.specs.declared.stmt.Stmt.{Stmt}
use Rattle.st_tree.proofs.SameStmts.{bare_stmt_of, bare_arm_of, bare_branch_of}
use Rattle.st_tree.proofs.same_stmt.+same_stmt.Given as goal

abbrev pub invariant-same_stmts-loop-i : goal.invariant-same_stmts-loop-i
invariant-same_stmts-loop-i l = (k : ℕ) (d : Stmt) → k < l.i → bare_stmt_of (get_or l.a k d) ≡ bare_stmt_of (get_or l.b k d)

abbrev pub invariant-same_arms-loop-i : goal.invariant-same_arms-loop-i
invariant-same_arms-loop-i l = (k : ℕ) (d : Arm) → k < l.i → bare_arm_of (get_or l.a k d) ≡ bare_arm_of (get_or l.b k d)

abbrev pub invariant-same_branches-loop-i : goal.invariant-same_branches-loop-i
invariant-same_branches-loop-i l = (k : ℕ) (d : Branch) → k < l.i → bare_branch_of (get_or l.a k d) ≡ bare_branch_of (get_or l.b k d)
