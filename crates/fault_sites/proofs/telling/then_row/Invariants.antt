use Rattle.fault_sites.specs.Acts.{row_at}
use Rattle.fault_sites.specs.Sites.{sited}
use Rattle.fault_sites.specs.Telling.{Tells}
use Rattle.fault_sites.proofs.telling.then_row.Given as goal

abbrev pub invariant-columns : goal.invariant-columns
invariant-columns g l =
    Tells (g.P.Pen.seen l.fn.told.pen) (g.P.Pen.seen l.told.pen) l.fn.told.part l.told.part
    (sited l.n l.k (row_at (g.A.Acts.act_of l.acts l.graph l.k l.op) l.i l.j))
