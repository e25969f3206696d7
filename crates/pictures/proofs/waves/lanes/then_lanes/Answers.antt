use Rattle.std.proofs.Common.{◌≡◌, length, arith}
use Rattle.pictures.specs.WavesDrawn.{lane}
use Rattle.pictures.specs.WavesElements.{stretch_elements}
use Rattle.pictures.proofs.WavesGoing.{drawn_more}
use Rattle.vcp_outside.specs.Pens.{unmoved, and_then, same}
use Rattle.pictures.proofs.waves.lanes.then_lanes.Goals as goal

pub columns-init : goal.columns-init
columns-init g c = unmoved

pub columns-preserved : goal.columns-preserved
columns-preserved g c =
    same (and_then c.columns.invariant c.then_lane-pen.ensures) (drawn_more (stretch_elements c.args.layout) (lane c.args.run.now) c.columns.column)

pub returns : goal.returns
returns g c =
    let all : c.columns.column ≡ length c.args.run.now.names = omega arith in
    rw all at c.columns.invariant
