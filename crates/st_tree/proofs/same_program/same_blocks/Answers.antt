use Rattle.std.proofs.Common.{refl}
use Rattle.st_tree.specs.declared.program.Block.{Block}
use Rattle.st_tree.specs.ProgramViews.{block_tree}
use Rattle.st_tree.specs.Bare.{bare_block}
use Rattle.st_tree.proofs.Pointwise.{always, never, all-before, at-one-more, at-place, both-by-each, both-length, both-each}
use Rattle.st_tree.proofs.same_program.same_blocks.Goals as goal

pub returns-then-a-b : goal.returns-then-a-b
returns-then-a-b c = never (λ e. absurd (c.if-a-b.true (both-length bare_block block_tree _ _ e)))

pub returns-then-not-same_block : goal.returns-then-not-same_block
returns-then-not-same_block c =
    never (λ e. c.if-not-same_block.ensures.1
    (at-place (λ (x : Block). bare_block (block_tree x)) c.args.a.now c.args.b.now c.loop-i.i _ _ c.loop-i-test.true
    c.if-a-b.false c.index-a-i.is c.index-b-i.is
    (both-each bare_block block_tree _ _ e c.loop-i.i c.index-a-i.result c.loop-i-test.true)))

pub loop-i-preserved : goal.loop-i-preserved
loop-i-preserved c =
    at-one-more (λ (x : Block). bare_block (block_tree x)) c.args.a.now c.args.b.now c.loop-i.i _ _ c.loop-i-test.true
    c.if-a-b.false c.index-a-i.is c.index-b-i.is
    (c.if-not-same_block.ensures.0 refl) c.loop-i.invariant

pub returns : goal.returns
returns c = always (both-by-each bare_block block_tree c.args.a.now c.args.b.now c.if-a-b.false
    (all-before (λ (x : Block). bare_block (block_tree x)) _ _ c.loop-i.i c.loop-i-test.false c.loop-i.invariant))
