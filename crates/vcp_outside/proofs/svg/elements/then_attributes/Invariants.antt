use Rattle.std.proofs.Common.{take, flat_map}
use Rattle.vcp_outside.specs.Elements.{given_text}
use Rattle.vcp_outside.specs.Pens.{Goes}
use Rattle.vcp_outside.proofs.svg.elements.then_attributes.Given as goal

abbrev pub invariant-attributes : goal.invariant-attributes
invariant-attributes g l = Goes (g.P.Pen.seen l.fn.pen) (g.P.Pen.seen l.pen) (flat_map given_text (take l.i l.attributes))
