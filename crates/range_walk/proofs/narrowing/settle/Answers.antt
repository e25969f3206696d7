use Rattle.std.proofs.Common.{◌<◌, ◌≤◌, length, take, sym, ap, subst, ◌∙◌, length-take-le, arith}
use Rattle.vcp_base.specs.Values.{at}
use Rattle.range_walk.specs.Intervals.{Fit}
use Rattle.range_walk.proofs.Putting.{fit_first}
use Rattle.range_walk.proofs.Steps.{get_there, given_front}
use Rattle.range_walk.proofs.narrowing.settle.Goals as goal

pub tell-told-requires : goal.tell-told-requires
tell-told-requires c =
    let le : c.args.i ≤ length c.args.ranges.now = omega (arith, c.requires.there) in
    record {
      there = omega (arith, c.requires.there, c.requires.many);
      many = ap length c.first_ranges-first.ensures.first ∙ length-take-le c.args.i c.args.ranges.now le;
      cells = c.requires.cells;
    }

pub returns-clause-fits : goal.returns-clause-fits
returns-clause-fits c = λ held row vs hold given whole fit.
    let g = c.args.graph.now in
    let i = c.args.i in
    let op = get_there g.operations i (omega (arith, c.requires.there, c.requires.many)) in
    let lt : i < length vs = omega (arith, whole, c.requires.there) in
    let front : Fit c.first_ranges-first.result.now (take i vs) =
    subst (λ rs. Fit rs (take i vs)) (sym c.first_ranges-first.ensures.first) (fit_first c.args.ranges.now vs i lt fit) in
    let told =
    c.tell-told.ensures held row (take i vs) op.0 op.1 hold (given_front g.operations held row vs i lt given) front (length-take-le i vs (omega arith)) in
    c.settle_operands.ensures.fits held row vs hold given (whole ∙ sym c.put.ensures.many)
    (c.put.ensures.fits vs lt fit (told.value (at vs i) (given.each i op.0 lt op.1)))

pub returns-clause-many : goal.returns-clause-many
returns-clause-many c = c.settle_operands.ensures.many ∙ c.put.ensures.many
