use Rattle.std.proofs.Common.{◌≡◌, ap, ◌∙◌}
use Rattle.verdict_tables.specs.SameEndings.{endings_over, sum_apart_text}
use Rattle.verdict_tables.specs.SumText.{shows_unseen}
use Rattle.vcp_study_core.specs.CarriedOut.{written}
use Rattle.vcp_study_core.specs.Texts.{sums_up}
use Rattle.vcp_study_core.proofs.Facts.{appends-nothing}
use Rattle.vcp_study_core.proofs.Carrying.{no_memory, wrote}
use Rattle.vcp_study_core.proofs.sum.write_tables_apart.Goals as goal

pub returns-in-Ok : goal.returns-in-Ok
returns-in-Ok g c =
    let i = c.args.image.now in
    let text = sum_apart_text i.graph c.args.parts.now (endings_over i.table i.graph c.args.rows.now c.args.parts.now) in
    wrote (λ x. x ≡ sums_up c.args.parts.now text) _ _ text c.shows_unseen-unseen.result
    (ap (written text) (c.shows_unseen-unseen.ensures ∙ ap shows_unseen c.totals_of_parts.ensures)) c.write_sum_apart.result
    (rw c.in-Ok.ensures.endings at c.write_sum_apart.ensures) c.told.result c.told.ensures.ok c.told.ensures.err

pub returns-in-Err : goal.returns-in-Err
returns-in-Err g c = no_memory _ _ _ (appends-nothing _)
