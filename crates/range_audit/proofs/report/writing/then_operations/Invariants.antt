use Rattle.range_audit.specs.RangeText.{lines_below}
use Rattle.vcp_outside.specs.Pens.{Goes}
use Rattle.range_audit.proofs.report.writing.then_operations.Given as goal

abbrev pub invariant-operations : goal.invariant-operations
invariant-operations g l = Goes (g.P.Pen.seen l.fn.pen) (g.P.Pen.seen l.pen) (lines_below l.all l.graph l.ranges l.i)
