use Rattle.std.proofs.Common.{slice_get}
use Rattle.fault_sites.specs.Rests.{groups_at}
use Rattle.fault_sites.specs.Sites.{each_below}
use Rattle.fault_sites.specs.Spending.{Spends}
use Rattle.fault_sites.proofs.rests.then_cycle.Given as goal

abbrev pub invariant-operations : goal.invariant-operations
invariant-operations g l =
    Spends (g.P.Pen.seen l.fn.spent.pen) (g.P.Pen.seen l.spent.pen) l.fn.spent.budget l.spent.budget
    (each_below (λ k. groups_at l.graph l.more l.n k (slice_get l.graph.operations k)) l.k)
