use Rattle.std.specs.Int.{w128}
use Rattle.std.proofs.Math.Facts.{to_z-of_z}
use Rattle.vcp_outside.specs.Pens.{gathered, has_written}
use Rattle.vcp_outside.proofs.line_pen.LinePenPen.long_value.Goals as goal

pub returns : goal.returns
returns g c sink name text is = has_written is.same ((rw (to_z-of_z {w = w128} {z = c.args.number} c.ranges.number) at c.long_value.ensures.gathers) _ _ _ (gathered is))
