use Rattle.std.proofs.Common.{◌≡◌, ℕ, ◌<◌, get_or}
use Rattle.st_tree.specs.declared.expr.Expr.{Expr}
use Rattle.st_tree.proofs.SameExprs.{bare_of}
use Rattle.st_tree.proofs.same_expr.+same_expr.Given as goal

abbrev pub invariant-same_exprs-loop-i : goal.invariant-same_exprs-loop-i
invariant-same_exprs-loop-i l = (k : ℕ) (d : Expr) → k < l.i → bare_of (get_or l.a k d) ≡ bare_of (get_or l.b k d)
