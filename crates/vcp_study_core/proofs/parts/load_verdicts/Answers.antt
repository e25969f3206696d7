use Rattle.vcp_study_core.specs.FromFiles.{as_found}
use Rattle.vcp_study_core.specs.Parts.{VerdictsIn}
use Rattle.vcp_base.specs.Limits.{most_rows_bytes}
use Rattle.vcp_study_core.proofs.Carrying.{lost_with, made_of}
use Rattle.vcp_study_core.proofs.PartsRead.{verdicts_quiet, text_lost, text_read}
use Rattle.vcp_study_core.proofs.TextFaults.{told_in}
use Rattle.vcp_study_core.proofs.parts.load_verdicts.Goals as goal

pub returns-in-Ok-clause-fetches : goal.returns-in-Ok-clause-fetches
returns-in-Ok-clause-fetches g c =
    let name = c.args.names.now.verdicts.now in
    let e = c.verdicts_in.ensures in
    let reads = told_in c.args.graph.now c.args.script.now name c.in-Ok.text c.verdicts_in.result (rw c.bytes.ensures at e.verdicts) e.named e.many
    (rw c.bytes.ensures at e.fault) in
    made_of (as_found c.verdicts_in.result) c.in-Ok.ensures.fetches (verdicts_quiet c.args.graph.now c.args.script.now name c.in-Ok.text _ reads)
    (λ h bytes. text_read (VerdictsIn c.args.graph.now c.args.script.now name) name most_rows_bytes h _ _ c.in-Ok.text bytes _ reads)

pub returns-in-Err-clause-fetches : goal.returns-in-Err-clause-fetches
returns-in-Err-clause-fetches g c =
    let name = c.args.names.now.verdicts.now in
    lost_with c.in-Err.ensures.fetches (λ h lost. text_lost (VerdictsIn c.args.graph.now c.args.script.now name) name most_rows_bytes h _ _ _ lost)
