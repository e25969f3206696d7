use Rattle.fault_injector.specs.FaultLines.{faults}
use Rattle.verdict_tables.proofs.Going.{no_row, a_row}
use Rattle.vcp_outside.specs.Pens.{and_then}
use Rattle.verdict_tables.proofs.rows.then_row.Goals as goal

pub returns-then-faults-eq0 : goal.returns-then-faults-eq0
returns-then-faults-eq0 g c = no_row (faults c.args.totals.now) _ (rw c.faults.ensures at c.if-faults-eq0.true)

pub returns : goal.returns
returns g c =
    let row = and_then c.then_columns.ensures (and_then c.text-pen.ensures (and_then c.then_row_name.ensures c.text.ensures)) in
    a_row (faults c.args.totals.now) _ (rw c.faults.ensures at c.if-faults-eq0.false) row
