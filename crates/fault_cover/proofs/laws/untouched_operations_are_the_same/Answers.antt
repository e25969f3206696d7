use Rattle.fault_cover.proofs.NoDifference.{no_difference}
use Rattle.fault_cover.proofs.UntouchedRuns.{acts_run}
use Rattle.fault_cover.proofs.laws.untouched_operations_are_the_same.Goals as goal

pub returns-clause-values : goal.returns-clause-values
returns-clause-values c = λ t g acts rows m one other graph here there.
    (acts_run t g acts graph (λ q k j reads. c.operands_are_there.ensures.earlier g q k j graph.part reads) c.entries_keep_their_rules.ensures
    c.cells_have_two_parts.ensures rows).same m one other here there

pub returns-clause-differences : goal.returns-clause-differences
returns-clause-differences c = λ t g acts m q graph untouched.
    let e = c.differences_are_superposed.ensures in
    no_difference t g acts (e.sum t g graph) (e.own t g graph) (e.unreached g graph) m q untouched
