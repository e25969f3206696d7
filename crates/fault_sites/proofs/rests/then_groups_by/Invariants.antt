use Rattle.std.proofs.Common.{◌+◌, drop}
use Rattle.fault_sites.specs.Rests.{groups_of}
use Rattle.fault_sites.specs.Sites.{each_below}
use Rattle.fault_sites.specs.Spending.{Spends}
use Rattle.fault_sites.proofs.rests.then_groups_by.Given as goal

abbrev pub invariant-readings : goal.invariant-readings
invariant-readings g l =
    Spends (g.P.Pen.seen l.fn.spent.pen) (g.P.Pen.seen l.spent.pen) l.fn.spent.budget l.spent.budget (each_below (λ i. groups_of l.n (drop (i + 1) l.rs)) l.i)
