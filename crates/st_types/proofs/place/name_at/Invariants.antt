use Rattle.std.proofs.Common.{◌≡◌, ◌++◌, List, drop, map, slice_get}
use Rattle.st_tree.specs.ProgramTree.{DeclaredTree}
use Rattle.st_tree.specs.ProgramViews.{block_tree}
use Rattle.st_types.specs.Places.{block_names}
use Rattle.st_types.proofs.place.name_at.Given as goal

abbrev pub invariant-each : goal.invariant-each
invariant-each l =
    (rest : List DeclaredTree) → slice_get (block_names (map block_tree (drop l.b-index l.blocks)) ++ rest) l.left ≡ slice_get
    (block_names (map block_tree l.blocks) ++ rest) l.n
