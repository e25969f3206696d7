use Rattle.verdict_tables.specs.SameEndings.{standing_parts}
use Rattle.vcp_outside.specs.Pens.{Goes}
use Rattle.verdict_tables.proofs.standing.then_all_standing.Given as goal

abbrev pub invariant-parts : goal.invariant-parts
invariant-parts g l = Goes (g.P.Pen.seen l.fn.pen) (g.P.Pen.seen l.pen) (standing_parts l.graph l.parts l.endings l.k)
