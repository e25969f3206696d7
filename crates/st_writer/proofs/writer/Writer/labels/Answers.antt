use Rattle.std.proofs.Common.{sym}
use Rattle.st_writer.proofs.Added.{and_then, nothing}
use Rattle.st_writer.proofs.Lists.{turn, ends}
use Rattle.st_writer.proofs.Stmts.{label_at, labels-are}
use Rattle.st_writer.proofs.writer.Writer.labels.Goals as goal

pub loop-i-init : goal.loop-i-init
loop-i-init c = nothing

pub loop-i-preserved : goal.loop-i-preserved
loop-i-preserved c =
    turn label_at c.args.labels.now c.loop-i.i c.index-labels-i.result c.loop-i-test.true (sym c.index-labels-i.is) c.loop-i.invariant
    (and_then c.separator.ensures c.label-self.ensures)

pub returns : goal.returns
returns c = ends label_at c.args.labels.now c.loop-i.i _ (labels-are c.args.labels.now) c.loop-i-test.false c.loop-i.invariant
