use Rattle.std.proofs.Common.{◌≡◌, ap, ◌∙◌}
use Rattle.verdict_tables.specs.SumText.{sum_text, shows_unseen}
use Rattle.vcp_study_core.specs.CarriedOut.{written}
use Rattle.vcp_study_core.specs.Texts.{sums_up}
use Rattle.vcp_study_core.proofs.Carrying.{lost, then_writes, wrote}
use Rattle.vcp_study_core.proofs.sum.sum_of_image.Goals as goal

pub returns-in-Some : goal.returns-in-Some
returns-in-Some g c end m = rw c.in-Some.is (c.apart_of_image.ensures end m)

pub returns-in-Ok : goal.returns-in-Ok
returns-in-Ok g c end m =
    let parts = c.in-Ok.parts in
    let text = sum_text c.args.image.now.graph parts in
    rw c.in-None.is (then_writes (c.in-Ok.ensures.fetches end)
    (λ h b n. wrote (λ x. x ≡ sums_up parts text) _ _ text c.shows_unseen-unseen.result
    (ap (written text) (c.shows_unseen-unseen.ensures ∙ ap shows_unseen c.totals_of_parts.ensures)) c.write_sum.result c.write_sum.ensures c.told.result
    c.told.ensures.ok c.told.ensures.err))

pub returns-in-Err : goal.returns-in-Err
returns-in-Err g c end m = rw c.in-None.is (lost (c.in-Err.ensures.fetches end))

pub totals_of_parts-requires : goal.totals_of_parts-requires
totals_of_parts-requires g c = record { whole = c.in-Ok.ensures.whole; few = c.in-Ok.ensures.few }

pub write_sum-requires : goal.write_sum-requires
write_sum-requires g c = record { whole = c.in-Ok.ensures.whole; fits = c.in-Ok.ensures.fits; few = c.in-Ok.ensures.few }
