use Rattle.range_audit.specs.RangeText.{outputs_text}
use Rattle.vcp_outside.specs.Pens.{Goes}
use Rattle.range_audit.proofs.report.variables.then_outputs.Given as goal

abbrev pub invariant-lines : goal.invariant-lines
invariant-lines g l = Goes (g.P.Pen.seen l.fn.pen) (g.P.Pen.seen l.pen) (outputs_text l.graph l.known l.i)
