use Rattle.std.proofs.Common.{◌≡◌, drop, map}
use Rattle.st_tree.specs.ProgramViews.{block_tree}
use Rattle.il_front.specs.Heads.{blocks_names}
use Rattle.il_front.specs.TypedForm.{first_reserved}
use Rattle.il_front.proofs.head.among_blocks.Given as goal

abbrev pub invariant-each : goal.invariant-each
invariant-each l = first_reserved (blocks_names (map block_tree (drop l.b-index l.blocks))) ≡ first_reserved (blocks_names (map block_tree l.blocks))
