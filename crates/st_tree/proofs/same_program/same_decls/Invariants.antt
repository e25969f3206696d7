use Rattle.std.proofs.Common.{◌≡◌, ℕ, ◌<◌, get_or}
use Rattle.st_tree.specs.declared.program.Decl.{Decl}
use Rattle.st_tree.specs.ProgramViews.{decl_tree}
use Rattle.st_tree.specs.Bare.{bare_decl}
use Rattle.st_tree.proofs.same_program.same_decls.Given as goal

abbrev pub invariant-loop-i : goal.invariant-loop-i
invariant-loop-i l = (k : ℕ) (d : Decl) → k < l.i → bare_decl (decl_tree (get_or l.a k d)) ≡ bare_decl (decl_tree (get_or l.b k d))
