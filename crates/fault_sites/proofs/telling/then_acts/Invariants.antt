use Rattle.fault_sites.specs.Acts.{acts_in}
use Rattle.fault_sites.specs.Sites.{each_below, sited}
use Rattle.fault_sites.specs.Telling.{Tells}
use Rattle.fault_sites.proofs.telling.then_acts.Given as goal

abbrev pub invariant-operations : goal.invariant-operations
invariant-operations g l =
    Tells (g.P.Pen.seen l.fn.told.pen) (g.P.Pen.seen l.told.pen) l.fn.told.part l.told.part
    (each_below (λ k. sited l.n k (acts_in (g.A.Acts.rows_of l.acts) (g.A.Acts.columns_of l.acts l.graph) (g.A.Acts.act_of l.acts l.graph) l.graph k)) l.k)
