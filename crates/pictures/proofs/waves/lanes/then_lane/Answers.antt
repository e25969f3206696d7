use Rattle.std.proofs.Common.{◌≤◌, [], ◌∷◌, ◌++◌, length, arith}
use Rattle.pictures.specs.WavesElements.{stretch_elements, value_element, edge_elements, label_elements}
use Rattle.pictures.proofs.WavesGoing.{drawn_one_more, three_texts}
use Rattle.pictures.proofs.Walk.{begun, next_at, all}
use Rattle.vcp_outside.specs.Pens.{unmoved, and_then, same}
use Rattle.pictures.proofs.waves.lanes.then_lane.Goals as goal

pub stretches-init : goal.stretches-init
stretches-init g c = record { drawn = []; before = begun c.args.run.now c.args.column; text = unmoved }

pub stretches-preserved : goal.stretches-preserved
stretches-preserved g c =
    let i = c.stretches.invariant in
    let l = c.args.layout in
    let stretch = c.stretch_from-stretch.result in
    let told = same (and_then c.then_value-pen.ensures (and_then c.then_edge-pen.ensures c.then_labels-pen.ensures))
    (three_texts (value_element l stretch) (edge_elements l stretch) (label_elements l stretch)) in
    record {
      drawn = i.drawn ++ stretch ∷ [];
      before = next_at c.args.run.now c.args.column c.stretches.at stretch i.drawn c.stretch_from-stretch.ensures.stretch (omega arith) i.before;
      text = same (and_then i.text told) (drawn_one_more (stretch_elements l) i.drawn stretch);
    }

pub returns : goal.returns
returns g c =
    let i = c.stretches.invariant in
    let done : length c.args.run.now.rows ≤ c.stretches.at = omega arith in
    rw (all c.args.run.now c.args.column c.stretches.at i.drawn done i.before) i.text

pub then_value-pen-requires : goal.then_value-pen-requires
then_value-pen-requires g c = rw c.stretch_from-stretch.ensures.begins c.stretch_from-stretch.ensures.some
