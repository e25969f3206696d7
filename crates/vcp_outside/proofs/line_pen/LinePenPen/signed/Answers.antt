use Rattle.std.proofs.Common.{w64}
use Rattle.std.proofs.Math.Facts.{to_z-of_z}
use Rattle.vcp_outside.specs.Pens.{and_then}
use Rattle.vcp_outside.proofs.line_pen.LinePenPen.signed.Goals as goal

pub returns : goal.returns
returns g c = and_then c.text.ensures (rw (to_z-of_z {w = w64} {z = c.args.v} c.ranges.v) at c.value.ensures)
