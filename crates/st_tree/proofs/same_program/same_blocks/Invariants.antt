use Rattle.std.proofs.Common.{◌≡◌, ℕ, ◌<◌, get_or}
use Rattle.st_tree.specs.declared.program.Block.{Block}
use Rattle.st_tree.specs.ProgramViews.{block_tree}
use Rattle.st_tree.specs.Bare.{bare_block}
use Rattle.st_tree.proofs.same_program.same_blocks.Given as goal

abbrev pub invariant-loop-i : goal.invariant-loop-i
invariant-loop-i l = (k : ℕ) (d : Block) → k < l.i → bare_block (block_tree (get_or l.a k d)) ≡ bare_block (block_tree (get_or l.b k d))
