use Rattle.verdict_tables.specs.SumText.{unseen_parts}
use Rattle.vcp_outside.specs.Pens.{Goes}
use Rattle.verdict_tables.proofs.unseen.then_all_unseen.Given as goal

abbrev pub invariant-parts : goal.invariant-parts
invariant-parts g l = Goes (g.P.Pen.seen l.fn.pen) (g.P.Pen.seen l.pen) (unseen_parts l.graph l.parts l.k)
