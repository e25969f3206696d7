use Rattle.vcp_outside.specs.Pens.{gathered, has_written}
use Rattle.vcp_outside.proofs.line_pen.LinePenPen.pieces.Goals as goal

pub returns : goal.returns
returns g c sink name text is = has_written is.same (c.then_pieces.ensures _ _ _ (gathered is))
