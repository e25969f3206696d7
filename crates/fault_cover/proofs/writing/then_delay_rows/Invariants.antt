use Rattle.std.proofs.Common.{◌<◌, ◌^◌, List, length}
use Rattle.fault_sites.specs.Sites.{each_below}
use Rattle.fault_cover.specs.Counts.{AreCounted}
use Rattle.fault_cover.specs.CoverText.{Covered, delay_row, heard_of}
use Rattle.vcp_outside.specs.Pens.{Goes}
use Rattle.fault_cover.proofs.writing.then_delay_rows.Given as goal

abbrev pub invariant-delays : goal.invariant-delays
invariant-delays g l =
    (covered : List Covered) → AreCounted l.counts covered → length (heard_of covered) < 2 ^ 62
    → Goes (g.P.Pen.seen l.fn.pen) (g.P.Pen.seen l.pen) (each_below (delay_row (heard_of covered)) l.n)
