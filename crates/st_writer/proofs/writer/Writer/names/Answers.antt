use Rattle.std.proofs.Common.{sym}
use Rattle.st_writer.proofs.Added.{and_then, nothing}
use Rattle.st_writer.proofs.Lists.{turn, ends}
use Rattle.st_writer.proofs.Programs.{name_at, names-are}
use Rattle.st_writer.proofs.writer.Writer.names.Goals as goal

pub loop-i-init : goal.loop-i-init
loop-i-init c = nothing

pub loop-i-preserved : goal.loop-i-preserved
loop-i-preserved c =
    turn name_at c.args.names.now c.loop-i.i c.index-names-i.result c.loop-i-test.true (sym c.index-names-i.is) c.loop-i.invariant
    (and_then c.separator.ensures c.name-self.ensures)

pub returns : goal.returns
returns c = ends name_at c.args.names.now c.loop-i.i _ (names-are c.args.names.now) c.loop-i-test.false c.loop-i.invariant
