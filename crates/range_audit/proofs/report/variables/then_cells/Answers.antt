use Rattle.std.proofs.Common.{◌≡◌, length, add-one, arith}
use Rattle.op_graph.specs.Lists.{cells}
use Rattle.vcp_outside.specs.Pens.{unmoved, and_then}
use Rattle.range_audit.proofs.report.variables.then_cells.Goals as goal

pub lines-init : goal.lines-init
lines-init g c = unmoved

pub lines-preserved : goal.lines-preserved
lines-preserved g c =
    rw (add-one c.lines.k, c.cell-cell.ensures) (and_then c.lines.invariant (rw c.variable_name-name.ensures at c.then_variable-pen.ensures))

pub returns : goal.returns
returns g c =
    let all : c.lines.k ≡ length (cells c.args.graph.now) = omega (arith, c.lines-test.false, c.lines.auto.k-end, c.cells-k-end.ensures.count) in
    rw all at c.lines.invariant
