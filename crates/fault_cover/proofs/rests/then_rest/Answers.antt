use Rattle.std.proofs.Common.{◌<◌, length, drop, suc, refl, ap, sym, subst, ◌∙◌, arith}
use Rattle.fault_cover.specs.Surveys.{IsRest}
use Rattle.fault_cover.specs.Walks.{further, kept}
use Rattle.fault_cover.proofs.Gathering.{front_of}
use Rattle.fault_cover.proofs.Resting.{first_more, rest_more}
use Rattle.fault_cover.proofs.Tellings.{is_out, within_for}
use Rattle.fault_cover.proofs.rests.then_rest.Goals as goal

pub first_from-near-requires : goal.first_from-near-requires
first_from-near-requires c =
    let g = c.args.graph.now in
    let m = c.requires.maps in
    let placed = c.requires.placed c.args.i c.item-start.result c.item-start.ensures in
    let op = placed.op in
    record {
      op = subst (λ xs. c.item-start.result.op < length xs) (sym c.outputs.ensures) (omega (arith, op, m.outputs.many));
      borders = placed.borders;
      within = within_for g c.outputs.result.now c.args.survey.now.outputs c.outputs.ensures c.requires.graph.part m.outputs.within;
    }

pub first_from-able-requires : goal.first_from-able-requires
first_from-able-requires c =
    let g = c.args.graph.now in
    let m = c.requires.maps in
    let placed = c.requires.placed c.args.i c.item-start.result c.item-start.ensures in
    let op = placed.op in
    record {
      op = subst (λ xs. c.item-start.result.op < length xs) (sym c.stops.ensures) (omega (arith, op, m.stops.many));
      borders = placed.borders;
      within = within_for g c.stops.result.now c.args.survey.now.stops c.stops.ensures c.requires.graph.part m.stops.within;
    }

pub sum_of-sum-requires-clause-out : goal.sum_of-sum-requires-clause-out
sum_of-sum-requires-clause-out c = λ n e.
    let v = c.args.survey.now in
    let start = c.item-start.result in
    let near = c.first_from-near.ensures ∙ ap (λ xs. further (kept xs start.op) start.borders) c.outputs.ensures in
    let more = drop (suc c.args.i) c.args.starts.now in
    is_out c.args.graph.now v v.outputs _ c.nearer-output.result n c.requires.maps refl
    (first_more v.outputs more start c.args.old.output c.first_from-near.result c.nearer-output.result near c.nearer-output.ensures c.requires.before.output) e

pub sum_of-sum-requires-clause-placed : goal.sum_of-sum-requires-clause-placed
sum_of-sum-requires-clause-placed c = c.requires.placed c.args.i c.item-start.result c.item-start.ensures

pub sum_of-sum-requires-clause-before : goal.sum_of-sum-requires-clause-before
sum_of-sum-requires-clause-before c = c.requires.before.below

pub returns : goal.returns
returns c =
    let g = c.args.graph.now in
    let v = c.args.survey.now in
    let start = c.item-start.result in
    let more = drop (suc c.args.i) c.args.starts.now in
    let near = c.first_from-near.ensures ∙ ap (λ xs. further (kept xs start.op) start.borders) c.outputs.ensures in
    let able = c.first_from-able.ensures ∙ ap (λ xs. further (kept xs start.op) start.borders) c.stops.ensures in
    subst (λ xs. IsRest g v xs (record { output = c.nearer-output.result; stop = c.nearer-stop.result; sum = c.sum_of-sum.result })) (sym (front_of c.args.starts.now c.args.i start c.item-start.ensures))
    (rest_more g v c.requires.maps (c.differences_are_superposed.ensures.unreached g c.requires.graph) (c.words_split_in_one_way.ensures g.profile)
    more start c.args.old c.first_from-near.result c.first_from-able.result c.nearer-output.result c.nearer-stop.result c.sum_of-sum.result c.requires.before
    near able c.nearer-output.ensures c.nearer-stop.ensures c.sum_of-sum.ensures.below c.sum_of-sum.ensures.value)
