use Rattle.std.proofs.Common.{◌+◌, nat_lt}
use Rattle.fault_sites.specs.Rests.{groups_in}
use Rattle.fault_sites.specs.Sites.{each_below}
use Rattle.fault_sites.specs.Spending.{Spends}
use Rattle.fault_sites.proofs.rests.then_rests.Given as goal

abbrev pub invariant-cycles : goal.invariant-cycles
invariant-cycles g l =
    Spends (g.P.Pen.seen l.fn.spent.pen) (g.P.Pen.seen l.spent.pen) l.fn.spent.budget l.spent.budget
    (each_below (λ n. groups_in l.graph (nat_lt (n + 1) l.cycles) n) l.n)
