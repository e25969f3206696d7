use Rattle.std.proofs.Common.{arith}
use Rattle.verdict_tables.specs.SumText.{delay_text}
use Rattle.fault_cover.specs.CoverText.{columns_text, refused_only, sum_of}
use Rattle.fault_cover.proofs.Going.{a_row}
use Rattle.vcp_outside.specs.Pens.{and_then}
use Rattle.fault_cover.proofs.lines.then_delay_row.Goals as goal

pub returns : goal.returns
returns g c = λ few.
    let t = refused_only c.args.refused in
    a_row (sum_of t) (columns_text t) (delay_text c.args.n) (λ none. omega (arith, none, c.if-refused-eq0.false))
    (rw c.refused_only-tally.ensures at c.then_columns-pen.ensures (omega (arith, few)))
    (and_then c.then_delay.ensures c.text.ensures)
