use Rattle.vcp_outside.specs.Pens.{unmoved, and_then}
use Rattle.range_audit.proofs.report.lines.then_known.Goals as goal

pub returns-then-not-all : goal.returns-then-not-all
returns-then-not-all g c = rw c.if-not-all.true unmoved

pub returns : goal.returns
returns g c = rw c.if-not-all.false (and_then c.then_operation_name-pen.ensures (and_then c.then_there.ensures c.text.ensures))
