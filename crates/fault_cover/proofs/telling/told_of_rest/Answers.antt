use Rattle.std.proofs.Common.{◌<◌, pos, length, map, drop, true, refl, ap, sym, subst, ◌∙◌, arith}
use Rattle.vcp_base.specs.Code.{modulus}
use Rattle.fault_cover.specs.Beginnings.{ArePlaced}
use Rattle.fault_cover.specs.Firsts.{outlook_of}
use Rattle.fault_cover.specs.Sources.{Refuses, as_source, readings}
use Rattle.fault_cover.proofs.Placing.{placed_left}
use Rattle.fault_cover.proofs.RestTelling.{left_is, many_kept, many_rests, rest_of_left, sum_refused}
use Rattle.fault_cover.proofs.Tellings.{told_directly}
use Rattle.fault_cover.proofs.telling.told_of_rest.Goals as goal

pub readings-starts-requires : goal.readings-starts-requires
readings-starts-requires c = omega (arith, c.requires.there, c.requires.mapped.maps.readings.many)

pub left_of-left-requires : goal.left_of-left-requires
left_of-left-requires c =
    let many = many_kept c.args.graph.now c.args.survey.now c.requires.mapped c.args.k c.readings-starts.result.now c.readings-starts.ensures in
    omega (arith, many, c.requires.stands)

pub rests-rests-requires : goal.rests-rests-requires
rests-rests-requires c = omega (arith, c.requires.there, c.requires.mapped.maps.readings.many, c.requires.mapped.rests.many)

pub rest_behind-rest-requires : goal.rest_behind-rest-requires
rest_behind-rest-requires c =
    let many = many_rests c.args.graph.now c.args.survey.now c.requires.mapped c.args.k c.readings-starts.result.now c.readings-starts.ensures
    c.rests-rests.result.now c.rests-rests.ensures in
    omega (arith, many, c.requires.stands)

pub told_of-requires-clause-placed : goal.told_of-requires-clause-placed
told_of-requires-clause-placed c =
    let g = c.args.graph.now in
    let is = left_is g c.args.survey.now c.requires.mapped c.args.k c.readings-starts.result.now c.readings-starts.ensures c.args.right c.left_of-left.result.now
    c.left_of-left.ensures in
    subst (ArePlaced g.profile (length g.operations)) (sym is)
    (placed_left g.profile g c.args.k c.args.right (c.words_split_in_one_way.ensures g.profile) c.entries_keep_their_rules.ensures c.requires.graph.part)

pub refuses-refused-requires : goal.refuses-refused-requires
refuses-refused-requires c =
    subst (λ q. c.rest_behind-rest.result.sum < modulus q) (sym c.profile.ensures.value)
    (rest_of_left c.args.graph.now c.args.survey.now c.requires.mapped c.args.k c.readings-starts.result.now c.readings-starts.ensures c.args.right
    c.left_of-left.result.now c.rests-rests.result.now c.rest_behind-rest.result c.left_of-left.ensures c.rests-rests.ensures c.requires.stands
    c.rest_behind-rest.ensures).below

pub returns-in-Is : goal.returns-in-Is
returns-in-Is c = λ t stops survey.
    let g = c.args.graph.now in
    let v = c.args.survey.now in
    let x = c.rest_behind-rest.result in
    let is = left_is g v c.requires.mapped c.args.k c.readings-starts.result.now c.readings-starts.ensures c.args.right c.left_of-left.result.now
    c.left_of-left.ensures in
    let rest = rest_of_left g v c.requires.mapped c.args.k c.readings-starts.result.now c.readings-starts.ensures c.args.right c.left_of-left.result.now
    c.rests-rests.result.now x c.left_of-left.ensures c.rests-rests.ensures c.requires.stands c.rest_behind-rest.ensures in
    told_directly g t stops v survey true (map as_source (drop c.args.right (readings g c.args.k))) c.left_of-left.result.now is v.outputs v.stops refl refl
    x.output x.stop rest.output rest.stop c.outlook_of-outlook.result
    (c.outlook_of-outlook.ensures ∙ ap (λ h. outlook_of h x.output x.stop) c.horizon.ensures) _ c.in-Is.is

pub returns-then-refused : goal.returns-then-refused
returns-then-refused c = λ t stops survey.
    let g = c.args.graph.now in
    let v = c.args.survey.now in
    let x = c.rest_behind-rest.result in
    let from = map as_source (drop c.args.right (readings g c.args.k)) in
    let is = left_is g v c.requires.mapped c.args.k c.readings-starts.result.now c.readings-starts.ensures c.args.right c.left_of-left.result.now
    c.left_of-left.ensures in
    let rest = rest_of_left g v c.requires.mapped c.args.k c.readings-starts.result.now c.readings-starts.ensures c.args.right c.left_of-left.result.now
    c.rests-rests.result.now x c.left_of-left.ensures c.rests-rests.ensures c.requires.stands c.rest_behind-rest.ensures in
    (sum_refused g t stops v survey from c.left_of-left.result.now is x rest c.outlook_of-outlook.result
    (c.outlook_of-outlook.ensures ∙ ap (λ h. outlook_of h x.output x.stop) c.horizon.ensures) c.in-Outputs.near c.in-Outputs.is
    (c.differences_are_superposed.ensures.unreached g c.requires.graph) (c.words_split_in_one_way.ensures g.profile) c.entries_keep_their_rules.ensures
    c.requires.graph.part)
    (subst (λ q. Refuses q true (pos x.sum)) c.profile.ensures.value (c.refuses-refused.ensures.yes c.if-refused.true))

pub returns-else-refused : goal.returns-else-refused
returns-else-refused c = λ t stops survey.
    let g = c.args.graph.now in
    let is = left_is g c.args.survey.now c.requires.mapped c.args.k c.readings-starts.result.now c.readings-starts.ensures c.args.right c.left_of-left.result.now
    c.left_of-left.ensures in
    c.told_of.ensures t stops (map as_source (drop c.args.right (readings g c.args.k))) survey is
