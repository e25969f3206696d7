use Rattle.std.proofs.Common.{sym}
use Rattle.st_tree.specs.ProgramViews.{block_tree}
use Rattle.st_writer.specs.CanonicalProgram.{block}
use Rattle.st_writer.proofs.Added.{nothing}
use Rattle.st_writer.proofs.Lists.{turn, ends}
use Rattle.st_writer.proofs.Programs.{item, items-are}
use Rattle.st_writer.proofs.writer.Writer.blocks.Goals as goal

pub loop-i-init : goal.loop-i-init
loop-i-init c = nothing

pub loop-i-preserved : goal.loop-i-preserved
loop-i-preserved c =
    turn (item block block_tree) c.args.blocks.now c.loop-i.i c.index-blocks-i.result c.loop-i-test.true (sym c.index-blocks-i.is) c.loop-i.invariant c.block-self.ensures

pub returns : goal.returns
returns c =
    ends (item block block_tree) c.args.blocks.now c.loop-i.i _ (items-are block block_tree c.args.blocks.now) c.loop-i-test.false c.loop-i.invariant
