use Rattle.vcp_outside.specs.Pens.{and_then}
use Rattle.verdict_tables.proofs.rows.then_titled.Goals as goal

pub returns : goal.returns
returns g c = and_then c.texts.ensures c.text.ensures
