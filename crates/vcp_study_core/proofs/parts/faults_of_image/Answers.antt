use Rattle.std.proofs.Common.{refl, ap, ◌∙◌}
use Rattle.pictures.specs.FaultsText.{faults_text}
use Rattle.verdict_tables.specs.SumText.{shows_unseen}
use Rattle.vcp_study_core.specs.Texts.{ShowsPart}
use Rattle.vcp_study_core.proofs.Facts.{appends-nothing}
use Rattle.vcp_study_core.proofs.Carrying.{lost, no_memory, then_writes, wrote}
use Rattle.vcp_study_core.proofs.PartsRead.{drawn}
use Rattle.vcp_study_core.proofs.parts.faults_of_image.Goals as goal

pub returns-in-Ok-layout_of : goal.returns-in-Ok-layout_of
returns-in-Ok-layout_of g c m =
    let graph = c.args.image.now.graph in
    let p = c.in-Ok.part in
    let unseen = c.shows_unseen-unseen.result in
    let text = faults_text graph p.script p.verdicts c.in-Ok-layout_of.layout in
    then_writes c.in-Ok.ensures.fetches
    (λ h b n. wrote (ShowsPart graph p) _ _ text unseen
    (text, unseen, (drawn graph p c.in-Ok-layout_of.layout c.in-Ok-layout_of.ensures, c.shows_unseen-unseen.ensures ∙ ap shows_unseen c.totals_of_all.ensures), refl)
    c.write_faults.result c.write_faults.ensures c.told.result c.told.ensures.ok c.told.ensures.err)

pub returns-in-Ok : goal.returns-in-Ok
returns-in-Ok g c m = then_writes c.in-Ok.ensures.fetches (λ h b n. no_memory _ _ _ (appends-nothing _))

pub returns : goal.returns
returns g c m = lost c.in-Err.ensures.fetches
