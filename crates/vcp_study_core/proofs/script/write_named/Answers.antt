use Rattle.std.proofs.Common.{◌≡◌, false, refl, sym, ap, ◌∙◌}
use Rattle.fault_sites.specs.NamedEntries.{checked, text_of_script}
use Rattle.vcp_study_core.specs.FromFiles.{own_answer}
use Rattle.vcp_study_core.specs.Parts.{digits}
use Rattle.vcp_study_core.specs.Texts.{NamedScript, refused_line, named_script}
use Rattle.vcp_study_core.specs.declared.fault.StudyRefusal.TheVariants as why
use Rattle.vcp_study_core.proofs.Facts.{appends-nothing}
use Rattle.vcp_study_core.proofs.Carrying.{no_memory, refused, wrote}
use Rattle.vcp_study_core.proofs.NamedScripts.{is_script}
use Rattle.vcp_study_core.proofs.script.write_named.Goals as goal

pub returns-in-Ok-check : goal.returns-in-Ok-check
returns-in-Ok-check g c =
    let law = c.a_script_by_names_is_read_back.ensures in
    let is = is_script law.read law.short c.args.image.now c.in-Ok.digest c.args.text.now c.in-Ok.ensures.digits c.in-Ok.ensures.plain c.in-Ok.ensures.count
    c.len-rules.ensures.rules c.requires.short (sym c.check.ensures ∙ c.in-Ok-check.is) in
    let text = text_of_script c.in-Ok.digest c.args.image.now.graph c.args.text.now in
    wrote (NamedScript c.args.name.now c.args.image.now c.args.text.now) _ _ text false (named_script (text, false, (is, refl), refl)) c.write_script.result
    c.write_script.ensures c.told.result c.told.ensures.ok c.told.ensures.err

pub returns-in-Err-check : goal.returns-in-Err-check
returns-in-Err-check g c =
    let i = c.args.image.now in
    let r = c.in-Err-check.refused in
    let same : checked (digits i) i.graph c.args.text.now ≡ checked c.in-Ok.digest i.graph c.args.text.now =
    ap (λ d. checked d i.graph c.args.text.now) (sym {b = digits i} c.in-Ok.ensures.digits) in
    rw c.bytes.ensures
    (refused (NamedScript c.args.name.now i c.args.text.now) _ _ (own_answer c.args.name.now (why.Named r))
    (refused_line r (same ∙ (sym c.check.ensures ∙ c.in-Err-check.is)) refl) refl refl (appends-nothing _))

pub returns-in-Err : goal.returns-in-Err
returns-in-Err g c = no_memory _ _ _ (appends-nothing _)
