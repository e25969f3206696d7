use Rattle.std.proofs.Common.{◌++◌}
use Rattle.verdict_tables.specs.SumText.{heading_of, rows_below}
use Rattle.vcp_outside.specs.Pens.{Goes}
use Rattle.verdict_tables.proofs.rows.then_table.Given as goal

abbrev pub invariant-rows : goal.invariant-rows
invariant-rows g l =
    Goes (g.P.Pen.seen l.fn.pen) (g.P.Pen.seen l.pen) (heading_of l.title ++ rows_below l.graph l.table l.parts l.n)
