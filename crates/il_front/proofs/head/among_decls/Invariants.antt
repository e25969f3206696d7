use Rattle.std.proofs.Common.{◌≡◌, drop, map}
use Rattle.st_tree.specs.ProgramViews.{decl_tree}
use Rattle.il_front.specs.Heads.{decls_names}
use Rattle.il_front.specs.TypedForm.{first_reserved}
use Rattle.il_front.proofs.head.among_decls.Given as goal

abbrev pub invariant-each : goal.invariant-each
invariant-each l = first_reserved (decls_names (map decl_tree (drop l.d-index l.decls))) ≡ first_reserved (decls_names (map decl_tree l.decls))
