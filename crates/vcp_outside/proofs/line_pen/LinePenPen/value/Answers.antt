use Rattle.std.proofs.Common.{w64}
use Rattle.std.proofs.Math.Facts.{to_z-of_z}
use Rattle.vcp_outside.specs.Pens.{gathered, has_written}
use Rattle.vcp_outside.proofs.line_pen.LinePenPen.value.Goals as goal

pub returns : goal.returns
returns g c sink name text is = has_written is.same ((rw (to_z-of_z {w = w64} {z = c.args.v} c.ranges.v) at c.value.ensures.gathers) _ _ _ (gathered is))
