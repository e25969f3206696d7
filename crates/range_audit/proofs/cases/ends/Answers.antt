use Rattle.std.proofs.Common.{length, sym, subst, ◌∙◌, ap, arith}
use Rattle.op_graph.specs.GraphRun.{stored}
use Rattle.range_audit.specs.Searching.{InBox}
use Rattle.range_walk.specs.Intervals.{Hold}
use Rattle.range_audit.proofs.cases.ends.Goals as goal

pub returns-then-has_none : goal.returns-then-has_none
returns-then-has_none c = λ e vs whole fit.
    absurd (c.has_none.ensures.fit c.if-has_none.true vs (omega (arith, whole, c.requires.many)) fit)

pub returns-then-is_in_one : goal.returns-then-is_in_one
returns-then-is_in_one c = λ e vs whole fit.
    let g = c.args.cycle.now.graph.now in
    let hold = c.in-Ok.ensures.holds vs whole fit in
    let at_end = c.is_in_one.ensures c.if-is_in_one.true (stored g vs) (subst (λ rs. Hold rs (stored g vs)) (sym c.deref.ensures.value) hold) in
    subst (λ n. InBox c.args.boxes.now.list.items n (stored g vs)) (ap length c.deref.ensures.value ∙ c.in-Ok.ensures.many) at_end
