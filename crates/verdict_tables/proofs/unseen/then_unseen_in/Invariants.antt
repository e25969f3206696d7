use Rattle.verdict_tables.specs.SumText.{unseen_below}
use Rattle.vcp_outside.specs.Pens.{Goes}
use Rattle.verdict_tables.proofs.unseen.then_unseen_in.Given as goal

abbrev pub invariant-groups : goal.invariant-groups
invariant-groups g l =
    Goes (g.P.Pen.seen l.fn.pen) (g.P.Pen.seen l.pen) (unseen_below l.graph l.mark l.part.script l.part.verdicts l.i)
