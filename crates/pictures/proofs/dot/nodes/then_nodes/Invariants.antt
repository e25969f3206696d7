use Rattle.std.proofs.Common.{flat_map, []}
use Rattle.pictures.specs.Colours.{colours}
use Rattle.pictures.specs.Drawn.{boxes_below}
use Rattle.pictures.specs.DotText.{box_text}
use Rattle.vcp_outside.specs.Pens.{Goes}
use Rattle.pictures.proofs.dot.nodes.then_nodes.Given as goal

abbrev pub invariant-operations : goal.invariant-operations
invariant-operations g l = Goes (g.P.Pen.seen l.fn.pen) (g.P.Pen.seen l.pen) (flat_map (box_text l.graph) (boxes_below l.graph (colours l.graph l.weights l.distances) [] l.n))
