use Rattle.std.proofs.Common.{arith, sym, subst, ◌∙◌}
use Rattle.fault_cover.specs.Sources.{is_any, sources}
use Rattle.fault_cover.specs.Telling.{TellsOf, subject}
use Rattle.fault_cover.proofs.Placing.{placed_one}
use Rattle.fault_cover.proofs.Tellings.{rest_is, stands_rest, told_other, told_same}
use Rattle.fault_cover.proofs.telling.tell.Goals as goal

pub returns-then-same : goal.returns-then-same
returns-then-same c = λ stops survey.
    told_same (subject c.args.graph.now c.args.table.now c.args.survey.now.horizon stops) c.args.k c.operation-op.result c.args.disturbance.now
    c.operation-op.ensures (sym c.does_the_same-same.ensures ∙ c.if-same.true)

pub told_of_rest-requires-clause-stands : goal.told_of_rest-requires-clause-stands
told_of_rest-requires-clause-stands c =
    stands_rest c.args.graph.now c.args.k c.args.disturbance.now c.in-Some.right
    (rest_is c.args.disturbance.now c.in-Some.right (sym c.rest_of-rest.ensures ∙ c.in-Some.is)) c.requires.stands

pub start_of-begun-requires-clause-one : goal.start_of-begun-requires-clause-one
start_of-begun-requires-clause-one c = sym c.rest_of-rest.ensures ∙ c.in-None.is

pub told_of-requires-clause-placed : goal.told_of-requires-clause-placed
told_of-requires-clause-placed c =
    let e = c.start_of-begun.ensures in
    placed_one c.args.graph.now.profile _ c.start_of-begun.result (record {
      op = omega (arith, e.op, c.requires.there);
      borders = omega (arith, e.borders);
      amount = e.amount;
    })

pub returns-in-Some : goal.returns-in-Some
returns-in-Some c = λ stops survey.
    let g = c.args.graph.now in
    let t = c.args.table.now in
    let d = c.args.disturbance.now in
    let op = c.operation-op.result in
    let is = rest_is d c.in-Some.right (sym c.rest_of-rest.ensures ∙ c.in-Some.is) in
    told_other (subject g t c.args.survey.now.horizon stops) c.args.k op d c.told_of_rest.result c.operation-op.ensures
    (sym c.does_the_same-same.ensures ∙ c.if-same.false)
    (subst (λ x. TellsOf (subject g t c.args.survey.now.horizon stops) (is_any x) (sources t g c.args.k op x) c.told_of_rest.result) (sym is)
    (c.told_of_rest.ensures t stops survey))

pub returns-in-None : goal.returns-in-None
returns-in-None c = λ stops survey.
    let g = c.args.graph.now in
    let t = c.args.table.now in
    let d = c.args.disturbance.now in
    let op = c.operation-op.result in
    let from = sources t g c.args.k op d in
    told_other (subject g t c.args.survey.now.horizon stops) c.args.k op d c.told_of.result c.operation-op.ensures
    (sym c.does_the_same-same.ensures ∙ c.if-same.false)
    (subst (λ any. TellsOf (subject g t c.args.survey.now.horizon stops) any from c.told_of.result) c.is_any-any.ensures
    (c.told_of.ensures t stops from survey (c.start_of-begun.ensures.is op c.operation-op.ensures)))
