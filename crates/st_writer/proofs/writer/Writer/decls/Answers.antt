use Rattle.std.proofs.Common.{sym}
use Rattle.st_tree.specs.ProgramViews.{decl_tree}
use Rattle.st_writer.specs.CanonicalProgram.{decl}
use Rattle.st_writer.proofs.Added.{nothing}
use Rattle.st_writer.proofs.Lists.{turn, ends}
use Rattle.st_writer.proofs.Programs.{item, items-are}
use Rattle.st_writer.proofs.writer.Writer.decls.Goals as goal

pub loop-i-init : goal.loop-i-init
loop-i-init c = nothing

pub loop-i-preserved : goal.loop-i-preserved
loop-i-preserved c =
    turn (item decl decl_tree) c.args.decls.now c.loop-i.i c.index-decls-i.result c.loop-i-test.true (sym c.index-decls-i.is) c.loop-i.invariant c.decl-self.ensures

pub returns : goal.returns
returns c =
    ends (item decl decl_tree) c.args.decls.now c.loop-i.i _ (items-are decl decl_tree c.args.decls.now) c.loop-i-test.false c.loop-i.invariant
