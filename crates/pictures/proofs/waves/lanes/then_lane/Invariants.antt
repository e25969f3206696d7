use Rattle.std.proofs.Common.{◌-◌, List, length}
use Rattle.pictures.specs.declared.waves.stretches.Stretch.{Stretch}
use Rattle.pictures.specs.WavesElements.{stretch_elements}
use Rattle.pictures.proofs.WavesGoing.{drawn_text}
use Rattle.pictures.proofs.Walk.{IsBefore}
use Rattle.vcp_outside.specs.Pens.{Goes}
use Rattle.pictures.proofs.waves.lanes.then_lane.Given as goal

abbrev pub invariant-stretches : goal.invariant-stretches
invariant-stretches g l = record {
  drawn : List Stretch;
  before : IsBefore l.run l.column l.at drawn;
  text : Goes (g.P.Pen.seen l.fn.pen) (g.P.Pen.seen l.pen) (drawn_text (stretch_elements l.layout) drawn);
}

abbrev pub decreases-stretches : goal.decreases-stretches
decreases-stretches g l = length l.run.rows - l.at
