use Rattle.std.proofs.Common.{◌≡◌, add-one, arith}
use Rattle.verdict_tables.specs.Tables.{rows}
use Rattle.verdict_tables.specs.SumText.{heading_of, rows_below}
use Rattle.verdict_tables.proofs.Going.{followed}
use Rattle.vcp_outside.specs.Pens.{unmoved, and_then}
use Rattle.verdict_tables.proofs.rows.then_table.Goals as goal

pub rows-init : goal.rows-init
rows-init g c = and_then c.then_titled-pen.ensures unmoved

pub rows-preserved : goal.rows-preserved
rows-preserved g c =
    let before = rows_below c.args.graph.now c.args.table c.args.parts.now c.rows.n in
    rw (add-one c.rows.n)
    (followed (heading_of c.args.title.now) before c.rows.invariant (rw c.totals_over-totals.ensures at c.then_row-pen.ensures))

pub returns : goal.returns
returns g c =
    let all : c.rows.n ≡ rows c.args.graph.now c.args.table =
    omega (arith, c.rows-test.false, c.rows.auto.n-end, c.rows-n-end.ensures) in
    rw all at c.rows.invariant
