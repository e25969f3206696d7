use Rattle.std.proofs.Common.{take, flat_map}
use Rattle.verdict_tables.specs.SumText.{fault_text}
use Rattle.vcp_outside.specs.Pens.{Goes}
use Rattle.verdict_tables.proofs.unseen.then_faults.Given as goal

abbrev pub invariant-faults : goal.invariant-faults
invariant-faults g l =
    Goes (g.P.Pen.seen l.fn.pen) (g.P.Pen.seen l.pen) (flat_map (fault_text l.graph) (take l.i l.group))
