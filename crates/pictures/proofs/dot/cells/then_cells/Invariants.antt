use Rattle.pictures.specs.DotText.{cells_below}
use Rattle.vcp_outside.specs.Pens.{Goes}
use Rattle.pictures.proofs.dot.cells.then_cells.Given as goal

abbrev pub invariant-cells : goal.invariant-cells
invariant-cells g l = Goes (g.P.Pen.seen l.fn.pen) (g.P.Pen.seen l.pen) (cells_below l.graph l.k)
