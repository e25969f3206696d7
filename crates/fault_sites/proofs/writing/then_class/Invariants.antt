use Rattle.fault_sites.specs.Sites.{each_below, sites_in}
use Rattle.fault_sites.specs.Telling.{Tells}
use Rattle.fault_sites.proofs.writing.then_class.Given as goal

abbrev pub invariant-cycles : goal.invariant-cycles
invariant-cycles g l =
    Tells (g.P.Pen.seen l.fn.told.pen) (g.P.Pen.seen l.told.pen) l.fn.told.part l.told.part (each_below (λ n. sites_in l.class l.graph n) l.n)
