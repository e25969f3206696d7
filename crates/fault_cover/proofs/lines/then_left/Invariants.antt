use Rattle.std.proofs.Common.{flat_map, take}
use Rattle.fault_cover.specs.Leftovers.{line_text}
use Rattle.vcp_outside.specs.Pens.{Goes}
use Rattle.fault_cover.proofs.lines.then_left.Given as goal

abbrev pub invariant-lines : goal.invariant-lines
invariant-lines g l = Goes (g.P.Pen.seen l.fn.pen) (g.P.Pen.seen l.pen) (flat_map (line_text l.graph) (take l.i l.lines))
