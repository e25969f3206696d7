use Rattle.pictures.specs.WavesDrawn.{lane}
use Rattle.vcp_outside.specs.Drawing.{each_below}
use Rattle.pictures.specs.WavesElements.{stretch_elements}
use Rattle.pictures.proofs.WavesGoing.{drawn_text}
use Rattle.vcp_outside.specs.Pens.{Goes}
use Rattle.pictures.proofs.waves.lanes.then_lanes.Given as goal

abbrev pub invariant-columns : goal.invariant-columns
invariant-columns g l = Goes (g.P.Pen.seen l.fn.pen) (g.P.Pen.seen l.pen) (drawn_text (stretch_elements l.layout) (each_below (lane l.run) l.column))
