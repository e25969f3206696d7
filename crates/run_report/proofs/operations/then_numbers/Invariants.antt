use Rattle.std.proofs.Common.{take, flat_map}
use Rattle.run_report.specs.OperationLines.{number_cell}
use Rattle.vcp_outside.specs.Pens.{Goes}
use Rattle.run_report.proofs.operations.then_numbers.Given as goal

abbrev pub invariant-numbers : goal.invariant-numbers
invariant-numbers g l = Goes (g.P.Pen.seen l.fn.pen) (g.P.Pen.seen l.pen) (flat_map number_cell (take l.i l.numbers))
