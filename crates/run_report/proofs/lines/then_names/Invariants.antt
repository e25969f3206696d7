use Rattle.std.proofs.Common.{take, flat_map}
use Rattle.vcp_outside.specs.Pens.{Goes}
use Rattle.run_report.specs.Lines.{name_cell}
use Rattle.run_report.proofs.lines.then_names.Given as goal

abbrev pub invariant-names : goal.invariant-names
invariant-names g l = Goes (g.P.Pen.seen l.fn.pen) (g.P.Pen.seen l.pen) (flat_map (λ c. name_cell c.name) (take l.i l.names))
