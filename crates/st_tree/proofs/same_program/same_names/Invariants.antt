use Rattle.std.proofs.Common.{◌≡◌, ℕ, ◌<◌, get_or}
use Rattle.st_tree.specs.declared.program.Declared.{Declared}
use Rattle.st_tree.specs.ProgramViews.{declared_tree}
use Rattle.st_tree.specs.Bare.{bare_declared}
use Rattle.st_tree.proofs.same_program.same_names.Given as goal

abbrev pub invariant-loop-i : goal.invariant-loop-i
invariant-loop-i l = (k : ℕ) (d : Declared) → k < l.i → bare_declared (declared_tree (get_or l.a k d)) ≡ bare_declared (declared_tree (get_or l.b k d))
