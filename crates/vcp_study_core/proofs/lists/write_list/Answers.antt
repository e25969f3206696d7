use Rattle.std.proofs.Common.{false, refl, subst}
use Rattle.vcp_inputs.specs.Forms.{as_code}
use Rattle.vcp_inputs.specs.GraphsOf.{IsImageFor}
use Rattle.vcp_typed.specs.SourceRun.{Program}
use Rattle.vcp_study_core.specs.FromFiles.{own_answer}
use Rattle.vcp_study_core.specs.Lists.{ListImage, ListText, StudiedList, of_list, translated, untranslated}
use Rattle.vcp_study_core.specs.declared.fault.StudyRefusal.TheVariants as why
use Rattle.vcp_study_core.proofs.Carrying.{no_memory, refused, wrote}
use Rattle.vcp_study_core.proofs.Facts.{appends-nothing}
use Rattle.vcp_study_core.proofs.ListFaults.{unlisted}
use Rattle.vcp_study_core.proofs.ListTexts.{is_text_of}
use Rattle.vcp_study_core.proofs.lists.write_list.Goals as goal

pub returns-in-Err : goal.returns-in-Err
returns-in-Err g c =
    rw c.bytes.ensures
    (unlisted c.args.name.now c.args.text.now (StudiedList c.args.name.now c.args.study) (g.O.Sink.seen c.args.out.now) c.in-Err.input c.in-Err.ensures.err)

-- ---- the image

pub image_for-requires : goal.image_for-requires
image_for-requires g c = record { code = rw c.in-Image.is at c.requires.code }

pub returns-in-Ok-image_for : goal.returns-in-Ok-image_for
returns-in-Ok-image_for g c =
    let (i, is, same) = c.in-Ok.ensures.ok in
    let text = c.args.text.now in
    let code = as_code c.in-Image.code in
    let image = c.in-Ok-image_for.image in
    let written = c.lists_are_told.ensures.images text i code image is (subst (λ (p : Program). IsImageFor p code image) same c.in-Ok-image_for.ensures) in
    rw c.in-Image.is
    (wrote (ListImage c.args.name.now text code) _ _ image false (of_list i is (image, false, (written, refl), refl)) c.write_all.result
    (rw c.bytes-in-Ok-image_for.ensures at c.write_all.ensures) c.told.result c.told.ensures.ok c.told.ensures.err)

pub returns-in-Image : goal.returns-in-Image
returns-in-Image g c = no_memory _ _ _ (appends-nothing _)

-- ---- the text

pub returns-in-Ok-Some : goal.returns-in-Ok-Some
returns-in-Ok-Some g c =
    let text = c.args.text.now in
    let law = c.lists_are_told.ensures in
    let (i, is, same) = c.in-Ok.ensures.ok in
    let written = c.in-Ok-Some.written in
    let own = is_text_of law.columns law.told text i c.in-Ok.program written is same (rw c.in-Ok-Some.field-0-is at c.in-Ok-Some.ensures) in
    rw c.in-Text.is
    (wrote (ListText c.args.name.now text) _ _ written false (of_list i is (translated (written, false, (own, refl), refl))) c.write_all-in-Ok-Some.result
    (rw c.bytes-in-Ok-Some.ensures at c.write_all-in-Ok-Some.ensures) c.told-in-Ok-Some.result c.told-in-Ok-Some.ensures.ok c.told-in-Ok-Some.ensures.err)

pub returns-in-Ok-None : goal.returns-in-Ok-None
returns-in-Ok-None g c =
    let (i, is, same) = c.in-Ok.ensures.ok in
    rw (c.in-Text.is, c.bytes-in-Ok-None.ensures)
    (refused (ListText c.args.name.now c.args.text.now) _ _ (own_answer c.args.name.now why.Text) (of_list i is (untranslated refl)) refl refl
    (appends-nothing _))

pub returns : goal.returns
returns g c = no_memory _ _ _ (appends-nothing _)
