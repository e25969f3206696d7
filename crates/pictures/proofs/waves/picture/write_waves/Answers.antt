use Rattle.std.proofs.Common.{length, flat_map, codes, refl, rules}
use Rattle.vcp_outside.specs.Elements.{beginning, ending}
use Rattle.pictures.specs.WavesDrawn.{lanes}
use Rattle.pictures.specs.WavesElements.{style, cycles_elements, names_elements, bases_elements, stretch_elements, ending_elements, waves_text, width_of, height_of}
use Rattle.pictures.proofs.WavesGoing.{parts}
use Rattle.vcp_outside.specs.Pens.{ended}
use Rattle.pictures.proofs.waves.picture.write_waves.Goals as goal

pub returns : goal.returns
returns g c =
    let run = c.args.run.now in
    let l = c.layout_for-layout.result in
    let period = c.args.period in
    let columns = length run.names in
    let cycles = length run.rows in
    let begun = rw (c.start.ensures.begin, c.cycles.ensures.count, c.top.ensures, c.columns.ensures.count, c.height_below.ensures.height) at c.begin_picture-pen.ensures in
    let named = c.then_names-pen.ensures _ _ _ (c.then_cycles-pen.ensures _ _ _ (c.then_element-pen.ensures _ _ _ begun)) in
    let all = c.then_ending-pen.ensures _ _ _ (c.then_lanes-pen.ensures _ _ _ (c.then_bases-pen.ensures _ _ _ named)) in (
      waves_text l run period,
      record { layout = l; wide = c.layout_for-layout.ensures.room; told = refl },
      rw (parts (beginning (width_of l run) (height_of run period)) ending style (cycles_elements l run period cycles)
          (names_elements run (codes "name") 8 23 columns) (bases_elements l run columns)
          (flat_map (stretch_elements l) (lanes run)) (ending_elements l columns cycles run.ending)) (ended g.O.Sink.seen (search rules) all c.end_picture.ensures refl),
    )
