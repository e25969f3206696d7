use Rattle.range_audit.specs.RangeText.{cells_text}
use Rattle.vcp_outside.specs.Pens.{Goes}
use Rattle.range_audit.proofs.report.variables.then_cells.Given as goal

abbrev pub invariant-lines : goal.invariant-lines
invariant-lines g l = Goes (g.P.Pen.seen l.fn.pen) (g.P.Pen.seen l.pen) (cells_text l.graph l.known l.k)
