use Rattle.std.proofs.Common.{inl, inr, refl}
use Rattle.vcp_inputs.specs.Forms.{audit}
use Rattle.coded_machine.specs.Moments.{moment}
use Rattle.vcp_inputs.specs.Abouts.{about, image_word}
use Rattle.vcp_inputs.specs.Answer.{printed as printed_answer}
use Rattle.vcp_inputs.specs.Kinds.{prints}
use Rattle.vcp_core.specs.Tasks.{TaskOf}
use Rattle.vcp_core.proofs.AuditKinds.{audit_told, too_large_audit, weights_caused, weights_read}
use Rattle.vcp_core.proofs.Facts.{if_some_always, if_some_weaker, not_none}
use Rattle.vcp_core.proofs.Performing.{files_lost, quiet_ended}
use Rattle.vcp_core.proofs.audit.audit_image.Goals as goal

pub returns-in-Err : goal.returns-in-Err
returns-in-Err g c unit files later read =
    let m = c.args.name.now in
    let horizon = c.args.horizon in
    let i = c.args.image.now in
    let why = c.in-Err.ensures.fault in
    let e = c.in-Err.input in
    rw c.bytes.ensures
    (files_lost (about (audit m horizon)) (TaskOf (audit m horizon)) files later not_none read.held (inr (inl refl)) _ m e
    (if_some_weaker files.held _ _ (λ h loads. too_large_audit m horizon h i files later _ e loads why) read.loads)
    (λ is. if_some_always files.held _ (λ h. inl read.ended)) (λ is. absurd (weights_read i horizon e why is))
    (λ no. read.faults) (λ is. absurd (weights_read i horizon e why is)) (weights_caused i horizon e why)
    (inl (image_word m, inl refl, refl)))

pub returns-in-Ok : goal.returns-in-Ok
returns-in-Ok g c unit files later read =
    let m = c.args.name.now in
    let horizon = c.args.horizon in
    rw c.text_ended.ensures
    (quiet_ended (about (audit m horizon)) (TaskOf (audit m horizon)) files later not_none read.held (moment unit _) (moment unit _)
    read.ended read.faults refl (inl refl) _
    (if_some_weaker files.held _ _
    (λ h loads. (
      prints _,
      audit_told m horizon h c.args.image.now loads _ c.in-Ok.ensures.few c.in-Ok.ensures.weights,
      (refl, refl),
      λ part. (refl, (printed_answer _, refl, part)),
    )) read.loads)
    c.write_audit.result c.write_audit.ensures)
