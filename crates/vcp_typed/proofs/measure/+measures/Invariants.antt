use Rattle.std.proofs.Common.{drop}
use Rattle.vcp_typed.specs.declared.measure.Measure.{Measure}
use Rattle.vcp_typed.specs.Measures.{Grows}
use Rattle.vcp_typed.specs.TStmtViews.{tstmt_trees, tarm_trees, tbranch_trees}
use Rattle.vcp_typed.specs.Size.{stmts_size, arms_size, branches_size}
use Rattle.vcp_typed.specs.Wide.{stmts_are_wide, arms_are_wide, branches_are_wide}
use Rattle.vcp_typed.proofs.measure.+measures.Given as goal

-- what the rest adds from here on, all items add from the start on
abbrev pub invariant-stmts_measure-each : goal.invariant-stmts_measure-each
invariant-stmts_measure-each l =
    (r : Measure) → Grows l.sum r (stmts_size (tstmt_trees (drop l.s-index l.ss))) (stmts_are_wide (tstmt_trees (drop l.s-index l.ss)))
    → Grows l.fn.total r (stmts_size (tstmt_trees l.ss)) (stmts_are_wide (tstmt_trees l.ss))

abbrev pub invariant-arms_measure-each : goal.invariant-arms_measure-each
invariant-arms_measure-each l =
    (r : Measure) → Grows l.sum r (arms_size (tarm_trees (drop l.arm-index l.arms))) (arms_are_wide (tarm_trees (drop l.arm-index l.arms)))
    → Grows l.fn.total r (arms_size (tarm_trees l.arms)) (arms_are_wide (tarm_trees l.arms))

abbrev pub invariant-branches_measure-each : goal.invariant-branches_measure-each
invariant-branches_measure-each l =
    (r : Measure) → Grows l.sum r (branches_size (tbranch_trees (drop l.branch-index l.branches))) (branches_are_wide (tbranch_trees (drop l.branch-index l.branches)))
    → Grows l.fn.total r (branches_size (tbranch_trees l.branches)) (branches_are_wide (tbranch_trees l.branches))
