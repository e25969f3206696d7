use Rattle.vcp_outside.specs.Pens.{gathered}
use Rattle.vcp_outside.proofs.line_pen.LinePen.end.Goals as goal

pub returns : goal.returns
returns g c sink name text is = c.end.ensures.writes _ _ _ (gathered is)
