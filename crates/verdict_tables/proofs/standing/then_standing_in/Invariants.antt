use Rattle.verdict_tables.specs.SameEndings.{standing_below}
use Rattle.vcp_outside.specs.Pens.{Goes}
use Rattle.verdict_tables.proofs.standing.then_standing_in.Given as goal

abbrev pub invariant-groups : goal.invariant-groups
invariant-groups g l =
    Goes (g.P.Pen.seen l.fn.pen) (g.P.Pen.seen l.pen) (standing_below l.graph l.mark l.part.script l.endings l.i)
