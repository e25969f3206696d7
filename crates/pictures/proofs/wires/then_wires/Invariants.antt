use Rattle.std.proofs.Common.{flat_map}
use Rattle.vcp_outside.specs.Elements.{element_text}
use Rattle.pictures.specs.Drawn.{wires_below}
use Rattle.pictures.specs.Elements.{wire_elements}
use Rattle.vcp_outside.specs.Pens.{Goes}
use Rattle.pictures.proofs.wires.then_wires.Given as goal

abbrev pub invariant-operations : goal.invariant-operations
invariant-operations g l = Goes (g.P.Pen.seen l.fn.pen) (g.P.Pen.seen l.pen) (flat_map element_text (flat_map (wire_elements l.graph) (wires_below l.graph l.layout.places l.n)))
