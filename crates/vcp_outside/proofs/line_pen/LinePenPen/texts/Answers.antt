use Rattle.vcp_outside.specs.Pens.{and_then}
use Rattle.vcp_outside.proofs.line_pen.LinePenPen.texts.Goals as goal

pub returns : goal.returns
returns g c = and_then c.text.ensures c.text-2.ensures
