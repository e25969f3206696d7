use Rattle.std.proofs.Common.{inr, refl}
use Rattle.weight_audit.specs.Audit.{most_weights, weights_up_to}
use Rattle.vcp_inputs.specs.declared.refusal.NoInput.TheVariants as input
use Rattle.vcp_inputs.specs.declared.refusal.Refusal.TheVariants as refusal
use Rattle.vcp_study_core.specs.Texts.{IsCover}
use Rattle.vcp_study_core.proofs.Carrying.{no_memory}
use Rattle.vcp_study_core.proofs.Facts.{appends-nothing}
use Rattle.vcp_study_core.proofs.Weights.{few_where, many_where, unweighed, weighed}
use Rattle.vcp_study_core.proofs.cover.write_cover.Goals as goal

pub returns-in-Ok : goal.returns-in-Ok
returns-in-Ok g c =
    let i = c.args.image.now in
    weighed c.args.horizon c.args.name.now i (IsCover i c.args.horizon c.args.classes) _ _ _ _
    (few_where (weights_up_to i.graph c.args.horizon) most_weights c.in-Ok.survey _ c.in-Ok.ensures.too_large) c.write_survey.ensures

pub returns-in-Err-TooLarge : goal.returns-in-Err-TooLarge
returns-in-Err-TooLarge g c =
    let i = c.args.image.now in
    let more = many_where (weights_up_to i.graph c.args.horizon) most_weights _ c.in-Err-TooLarge.ensures.not_too_large _ c.in-Err-TooLarge.field-0-is in
    rw c.bytes.ensures
    (unweighed c.args.horizon c.args.name.now i (IsCover i c.args.horizon c.args.classes) (g.O.Sink.seen c.args.out.now) (input.Refused refusal.Audit)
    (inr (refl, more)))

pub returns-in-Err-Memory : goal.returns-in-Err-Memory
returns-in-Err-Memory g c = no_memory _ _ _ (appends-nothing _)

pub write_survey-requires : goal.write_survey-requires
write_survey-requires g c = record { table = c.requires.table; survey = c.in-Ok.ensures.survey; mapped = c.in-Ok.ensures.mapped }
