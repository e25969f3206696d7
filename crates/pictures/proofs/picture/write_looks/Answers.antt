use Rattle.std.proofs.Common.{flat_map, rules, refl}
use Rattle.vcp_outside.specs.Elements.{beginning, ending}
use Rattle.pictures.specs.Drawn.{drawing}
use Rattle.pictures.specs.Elements.{legend_of, wire_elements, box_elements}
use Rattle.pictures.proofs.Going.{parts}
use Rattle.vcp_outside.specs.Pens.{ended}
use Rattle.pictures.proofs.picture.write_looks.Goals as goal

pub returns : goal.returns
returns g c =
    let graph = c.args.graph.now in
    let l = c.args.layout.now in
    let looks = g.L.Looks.looks c.args.looks.now graph in
    let d = drawing graph looks l.places in
    let legend = legend_of c.args.rules.now c.args.samples.now in
    let begun = rw (c.width.ensures, c.height.ensures) at c.begin_picture-pen.ensures in
    let all = c.then_boxes-pen.ensures _ _ _ (c.then_wires-pen.ensures _ _ _ (c.then_legend-pen.ensures _ _ _ begun)) in
    rw (parts (beginning l.width l.height) ending legend (flat_map (wire_elements graph) d.wires) (flat_map (box_elements graph looks) d.boxes))
    (ended g.O.Sink.seen (search rules) all c.end_picture.ensures refl)
