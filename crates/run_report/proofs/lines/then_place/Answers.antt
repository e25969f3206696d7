use Rattle.vcp_outside.specs.Pens.{and_then}
use Rattle.run_report.proofs.lines.then_place.Goals as goal

pub returns : goal.returns
returns g c = and_then c.count.ensures c.numbered.ensures
