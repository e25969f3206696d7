use Rattle.std.proofs.Common.{All, flat_map, take}
use Rattle.fault_cover.specs.Writing.{IsSmall, count_row}
use Rattle.vcp_outside.specs.Pens.{Goes}
use Rattle.fault_cover.proofs.writing.then_class_rows.Given as goal

abbrev pub invariant-classes : goal.invariant-classes
invariant-classes g l = All IsSmall l.counts → Goes (g.P.Pen.seen l.fn.pen) (g.P.Pen.seen l.pen) (flat_map count_row (take l.i
    l.counts))
