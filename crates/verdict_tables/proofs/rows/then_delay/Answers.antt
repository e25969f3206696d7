use Rattle.vcp_outside.specs.Pens.{and_then}
use Rattle.verdict_tables.proofs.rows.then_delay.Goals as goal

pub returns : goal.returns
returns g c = and_then c.numbered.ensures (rw c.or_more.ensures at c.text.ensures)
