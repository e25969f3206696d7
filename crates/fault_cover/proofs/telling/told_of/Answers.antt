use Rattle.std.proofs.Common.{refl, ap, sym, subst, ◌≤◌, ◌∙◌, arith}
use Rattle.weight_audit.specs.Audit.{IsAudit}
use Rattle.fault_cover.specs.declared.effect.Effect.TheVariants as told
use Rattle.fault_cover.specs.Firsts.{outlook_of}
use Rattle.fault_cover.proofs.Tellings.{audit_for, is_out, out_inside, outputs_first, placed_for, told_at_outputs, told_directly, within_for}
use Rattle.fault_cover.proofs.telling.told_of.Goals as goal

pub first_of-output-requires : goal.first_of-output-requires
first_of-output-requires c =
    let g = c.args.graph.now in
    let m = c.requires.mapped.maps in
    record {
      placed = placed_for c.profile-profile.result g c.outputs.result.now c.args.survey.now.outputs c.args.starts.now
          c.profile-profile.ensures.value c.outputs.ensures
          m.outputs.many c.requires.placed;
      within = within_for g c.outputs.result.now c.args.survey.now.outputs c.outputs.ensures c.requires.graph.part m.outputs.within;
    }

pub first_of-stop-requires : goal.first_of-stop-requires
first_of-stop-requires c =
    let g = c.args.graph.now in
    let m = c.requires.mapped.maps in
    record {
      placed = placed_for c.profile-profile.result g c.stops.result.now c.args.survey.now.stops c.args.starts.now
          c.profile-profile.ensures.value c.stops.ensures
          m.stops.many c.requires.placed;
      within = within_for g c.stops.result.now c.args.survey.now.stops c.stops.ensures c.requires.graph.part m.stops.within;
    }

pub number-first-requires : goal.number-first-requires
number-first-requires c =
    let g = c.args.graph.now in
    let v = c.args.survey.now in
    let m = c.requires.mapped.maps in
    let first = outputs_first c.horizon.result c.first_of-output.result c.first_of-stop.result c.in-Outputs.near
    (sym c.outlook_of-outlook.ensures ∙ c.in-Outputs.is) in
    let out = is_out g v c.outputs.result.now c.args.starts.now c.first_of-output.result c.in-Outputs.near m c.outputs.ensures c.first_of-output.ensures first.0 in
    let inside = out_inside g c.in-Outputs.near.op c.entries_keep_their_rules.ensures c.requires.graph.part out in
    omega (arith, inside, m.numbers.many)

pub is_refused-refused-requires-clause-audit : goal.is_refused-refused-requires-clause-audit
is_refused-refused-requires-clause-audit c =
    let g = c.args.graph.now in
    subst (λ a. IsAudit g a.horizon a) (sym c.weights.ensures) (audit_for g c.args.survey.now.horizon c.args.survey.now.weights c.requires.mapped.maps.weights)

pub is_refused-refused-requires-clause-borders : goal.is_refused-refused-requires-clause-borders
is_refused-refused-requires-clause-borders c =
    let first = outputs_first c.horizon.result c.first_of-output.result c.first_of-stop.result c.in-Outputs.near
    (sym c.outlook_of-outlook.ensures ∙ c.in-Outputs.is) in
    let within = first.1 in
    let audit = c.requires.mapped.maps.weights.horizon_is in
    subst (λ a. c.in-Outputs.near.borders ≤ a.horizon) (sym c.weights.ensures) (omega (arith, within, audit, c.horizon.ensures))

pub returns-in-Is : goal.returns-in-Is
returns-in-Is c = λ t stops from survey is.
    told_directly c.args.graph.now t stops c.args.survey.now survey c.args.any from c.args.starts.now is c.outputs.result.now c.stops.result.now
    c.outputs.ensures c.stops.ensures c.first_of-output.result c.first_of-stop.result c.first_of-output.ensures c.first_of-stop.ensures
    c.outlook_of-outlook.result (c.outlook_of-outlook.ensures ∙ ap
    (λ h. outlook_of h c.first_of-output.result c.first_of-stop.result) c.horizon.ensures) _ c.in-Is.is

pub returns-then-refused : goal.returns-then-refused
returns-then-refused c = λ t stops from survey is.
    told_at_outputs c.args.graph.now t stops c.args.survey.now survey c.args.any from c.args.starts.now is c.outputs.result.now c.stops.result.now
    c.outputs.ensures c.stops.ensures c.first_of-output.result c.first_of-stop.result c.first_of-output.ensures c.first_of-stop.ensures
    c.outlook_of-outlook.result (c.outlook_of-outlook.ensures ∙ ap (λ h. outlook_of h c.first_of-output.result c.first_of-stop.result) c.horizon.ensures)
    c.in-Outputs.near c.in-Outputs.is (c.differences_are_superposed.ensures.unreached c.args.graph.now c.requires.graph)
    (c.words_split_in_one_way.ensures c.args.graph.now.profile) c.entries_keep_their_rules.ensures c.requires.graph.part c.number-first.result
    c.number-first.ensures (told.Refused c.in-Outputs.near.borders) (refl, c.is_refused-refused.ensures.yes from is c.if-refused.true)

pub returns-else-refused : goal.returns-else-refused
returns-else-refused c = λ t stops from survey is.
    told_at_outputs c.args.graph.now t stops c.args.survey.now survey c.args.any from c.args.starts.now is c.outputs.result.now c.stops.result.now
    c.outputs.ensures c.stops.ensures c.first_of-output.result c.first_of-stop.result c.first_of-output.ensures c.first_of-stop.ensures
    c.outlook_of-outlook.result (c.outlook_of-outlook.ensures ∙ ap (λ h. outlook_of h c.first_of-output.result c.first_of-stop.result) c.horizon.ensures)
    c.in-Outputs.near c.in-Outputs.is (c.differences_are_superposed.ensures.unreached c.args.graph.now c.requires.graph)
    (c.words_split_in_one_way.ensures c.args.graph.now.profile) c.entries_keep_their_rules.ensures c.requires.graph.part c.number-first.result
    c.number-first.ensures (told.Shows c.in-Outputs.near.borders c.number-first.result) (refl, refl, c.is_refused-refused.ensures.no from is c.if-refused.false)
