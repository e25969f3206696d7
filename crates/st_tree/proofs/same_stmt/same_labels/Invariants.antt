use Rattle.std.proofs.Common.{◌≡◌, ℕ, ◌<◌, get_or}
use Rattle.st_tree.specs.declared.stmt.Label.{Label}
use Rattle.st_tree.proofs.SameStmts.{bare_label_of}
use Rattle.st_tree.proofs.same_stmt.same_labels.Given as goal

abbrev pub invariant-loop-i : goal.invariant-loop-i
invariant-loop-i l = (k : ℕ) (d : Label) → k < l.i → bare_label_of (get_or l.a k d) ≡ bare_label_of (get_or l.b k d)
