use Rattle.std.proofs.Common.{flat_map}
use Rattle.vcp_outside.specs.Elements.{element_text}
use Rattle.pictures.specs.Drawn.{boxes_below}
use Rattle.pictures.specs.Elements.{box_elements}
use Rattle.vcp_outside.specs.Pens.{Goes}
use Rattle.pictures.proofs.boxes.then_boxes.Given as goal

abbrev pub invariant-operations : goal.invariant-operations
invariant-operations g l = Goes (g.P.Pen.seen l.fn.pen) (g.P.Pen.seen l.pen)
    (flat_map element_text
    (flat_map (box_elements l.graph (g.L.Looks.looks l.looks l.graph)) (boxes_below l.graph (g.L.Looks.looks l.looks l.graph) l.layout.places l.n)))
