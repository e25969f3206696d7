use Rattle.std.proofs.Common.{sym, ◌∙◌}
use Rattle.vcp_study_core.specs.Parts.{of_another, script_unmade}
use Rattle.vcp_study_core.proofs.PartsRead.{other_image, script_in_text, no_script_in_text}
use Rattle.vcp_study_core.proofs.parts.script_in.Goals as goal

pub returns-then-not-is_for-clause-reads : goal.returns-then-not-is_for-clause-reads
returns-then-not-is_for-clause-reads c =
    rw c.bytes.ensures
    (of_another (other_image c.args.image.now c.args.name.now c.args.text.now c.in-Ok.digest c.in-Ok.ensures.digits (sym c.is_for.ensures ∙ c.if-not-is_for.true)))

pub returns-in-Err-clause-reads : goal.returns-in-Err-clause-reads
returns-in-Err-clause-reads c = script_unmade

pub returns-in-Ok-read_script-clause-reads : goal.returns-in-Ok-read_script-clause-reads
returns-in-Ok-read_script-clause-reads c =
    script_in_text c.args.image.now c.args.name.now c.args.text.now c.in-Ok.digest c.in-Ok.ensures.digits (sym c.is_for.ensures ∙ c.if-not-is_for.false)
    c.in-Ok-read_script.script c.in-Ok-read_script.ensures.script

pub returns-in-Err-read_script-clause-reads : goal.returns-in-Err-read_script-clause-reads
returns-in-Err-read_script-clause-reads c =
    rw (c.bytes-in-Err-read_script.ensures, c.from.ensures)
    (no_script_in_text c.args.image.now c.args.name.now c.args.text.now c.in-Ok.digest c.in-Ok.ensures.digits (sym c.is_for.ensures ∙ c.if-not-is_for.false)
    c.in-Err-read_script.why c.in-Err-read_script.ensures.refusal)
