use Rattle.vcp_outside.specs.Pens.{and_then}
use Rattle.range_audit.proofs.report.lines.then_operands.Goals as goal

pub returns : goal.returns
returns g c = and_then c.then_operand-pen.ensures c.then_operand.ensures
