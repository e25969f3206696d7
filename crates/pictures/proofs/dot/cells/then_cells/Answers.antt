use Rattle.std.proofs.Common.{◌≡◌, length, add-one, arith}
use Rattle.op_graph.specs.Lists.{cells}
use Rattle.vcp_outside.specs.Pens.{unmoved, and_then}
use Rattle.pictures.proofs.dot.cells.then_cells.Goals as goal

pub cells-init : goal.cells-init
cells-init g c = unmoved

pub cells-preserved : goal.cells-preserved
cells-preserved g c =
    rw (add-one c.cells.k, c.cell-cell.ensures)
    (and_then c.cells.invariant (and_then c.numbered.ensures (and_then c.numbered-in-cells.ensures c.text-pen.ensures)))

pub returns : goal.returns
returns g c =
    let all : c.cells.k ≡ length (cells c.args.graph.now) =
    omega (arith, c.cells-test.false, c.cells.auto.k-end, c.cells-k-end.ensures.count) in
    rw all at c.cells.invariant
