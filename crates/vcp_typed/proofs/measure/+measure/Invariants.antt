use Rattle.std.proofs.Common.{drop}
use Rattle.vcp_typed.specs.declared.measure.Measure.{Measure}
use Rattle.vcp_typed.specs.Measures.{Grows}
use Rattle.vcp_typed.specs.TExprViews.{texpr_trees}
use Rattle.vcp_typed.specs.Size.{exprs_size}
use Rattle.vcp_typed.specs.Wide.{exprs_are_wide}
use Rattle.vcp_typed.proofs.measure.+measure.Given as goal

-- what the rest adds from here on, all items add from the start on
abbrev pub invariant-exprs_measure-each : goal.invariant-exprs_measure-each
invariant-exprs_measure-each l =
    (r : Measure) → Grows l.sum r (exprs_size (texpr_trees (drop l.e-index l.es))) (exprs_are_wide (texpr_trees (drop l.e-index l.es)))
    → Grows l.fn.total r (exprs_size (texpr_trees l.es)) (exprs_are_wide (texpr_trees l.es))
