use Rattle.std.proofs.Common.{◌≡◌, ◌++◌, List, drop, map, slice_get}
use Rattle.st_tree.specs.ProgramTree.{DeclaredTree}
use Rattle.st_tree.specs.ProgramViews.{decl_tree}
use Rattle.st_types.specs.Places.{decl_names}
use Rattle.st_types.proofs.place.in_declarations.Given as goal

abbrev pub invariant-each : goal.invariant-each
invariant-each l =
    (rest : List DeclaredTree) → slice_get (decl_names (map decl_tree (drop l.d-index l.decls)) ++ rest) l.left ≡ slice_get
    (decl_names (map decl_tree l.decls) ++ rest) l.n
