use Rattle.fault_sites.specs.Acts.{row_at}
use Rattle.fault_sites.specs.Sites.{each_below, sited}
use Rattle.fault_sites.specs.Telling.{Tells}
use Rattle.fault_sites.proofs.telling.then_operation.Given as goal

abbrev pub invariant-rows : goal.invariant-rows
invariant-rows g l =
    Tells (g.P.Pen.seen l.fn.told.pen) (g.P.Pen.seen l.told.pen) l.fn.told.part l.told.part
    (sited l.n l.k (each_below (row_at (g.A.Acts.act_of l.acts l.graph l.k l.op) (g.A.Acts.columns_of l.acts l.graph l.k)) l.j))
