use Rattle.fault_cover.proofs.Covering.{columns_said}
use Rattle.vcp_outside.specs.Pens.{and_then, same}
use Rattle.fault_cover.proofs.lines.then_columns.Goals as goal

pub returns : goal.returns
returns g c = λ few.
    same (and_then (rw (c.sum.ensures few) at c.then_column-pen.ensures) (and_then c.then_column-pen-2.ensures (and_then c.then_column-pen-3.ensures
    (and_then c.then_column-pen-4.ensures (and_then c.then_column-pen-5.ensures (and_then c.then_column.ensures c.text.ensures))))))
    (columns_said c.args.tally.now)
