use Rattle.vcp_outside.specs.Pens.{and_then}
use Rattle.fault_cover.proofs.lines.then_heading.Goals as goal

pub returns : goal.returns
returns g c = and_then c.texts.ensures c.text.ensures
