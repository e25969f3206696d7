use Rattle.vcp_study_core.specs.FromFiles.{as_found}
use Rattle.vcp_study_core.specs.Parts.{ScriptIn}
use Rattle.vcp_base.specs.Limits.{most_source_bytes}
use Rattle.vcp_study_core.proofs.Carrying.{lost_with, made_of}
use Rattle.vcp_study_core.proofs.PartsRead.{script_quiet, text_lost, text_read}
use Rattle.vcp_study_core.proofs.parts.load_script.Goals as goal

pub returns-in-Ok-clause-fetches : goal.returns-in-Ok-clause-fetches
returns-in-Ok-clause-fetches g c =
    let i = c.args.image.now in
    let name = c.args.names.now.script.now in
    let reads = rw c.bytes.ensures at c.script_in.ensures.reads in
    made_of (as_found c.script_in.result) c.in-Ok.ensures.fetches (script_quiet i name c.in-Ok.text _ reads)
    (λ h bytes. text_read (ScriptIn i name) name most_source_bytes h _ _ c.in-Ok.text bytes _ reads)

pub returns-in-Err-clause-fetches : goal.returns-in-Err-clause-fetches
returns-in-Err-clause-fetches g c =
    let name = c.args.names.now.script.now in
    lost_with c.in-Err.ensures.fetches (λ h lost. text_lost (ScriptIn c.args.image.now name) name most_source_bytes h _ _ _ lost)
