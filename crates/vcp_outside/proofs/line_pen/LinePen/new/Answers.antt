use Rattle.std.proofs.Common.{refl}
use Rattle.vcp_outside.specs.Pens.{has_written}
use Rattle.vcp_outside.proofs.line_pen.LinePen.new.Goals as goal

pub returns : goal.returns
returns g c = has_written refl (c.new.ensures.begun _ _)
