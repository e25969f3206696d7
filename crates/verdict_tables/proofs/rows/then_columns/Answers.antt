use Rattle.vcp_outside.specs.Pens.{and_then}
use Rattle.verdict_tables.proofs.rows.then_columns.Goals as goal

pub returns : goal.returns
returns g c =
    let all = rw c.faults.ensures at c.then_column-pen.ensures in
    let last = and_then c.then_column-pen-4.ensures (and_then c.then_column-pen-5.ensures c.then_column.ensures) in
    and_then all (and_then c.then_column-pen-2.ensures (and_then c.then_column-pen-3.ensures last))
