use Rattle.std.proofs.Common.{[], ◌∷◌}
use Rattle.fault_sites.specs.Rests.{changed}
use Rattle.fault_sites.specs.Sites.{addend, each_below}
use Rattle.fault_sites.specs.Spending.{Spends}
use Rattle.fault_sites.proofs.rests.then_groups_of.Given as goal

abbrev pub invariant-values : goal.invariant-values
invariant-values g l =
    Spends (g.P.Pen.seen l.fn.spent.pen) (g.P.Pen.seen l.spent.pen) l.fn.spent.budget l.spent.budget (each_below (λ v. changed l.n (addend v) l.rs ∷ []) l.v)
