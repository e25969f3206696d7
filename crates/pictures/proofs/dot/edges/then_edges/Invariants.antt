use Rattle.std.proofs.Common.{flat_map, []}
use Rattle.pictures.specs.Drawn.{wires_below}
use Rattle.pictures.specs.DotText.{wire_text}
use Rattle.vcp_outside.specs.Pens.{Goes}
use Rattle.pictures.proofs.dot.edges.then_edges.Given as goal

abbrev pub invariant-operations : goal.invariant-operations
invariant-operations g l = Goes (g.P.Pen.seen l.fn.pen) (g.P.Pen.seen l.pen) (flat_map (wire_text l.graph l.weights l.distances) (wires_below l.graph [] l.n))
