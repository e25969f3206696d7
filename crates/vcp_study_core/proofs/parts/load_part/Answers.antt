use Rattle.vcp_study_core.specs.Parts.{part, without_script, without_verdicts}
use Rattle.vcp_study_core.proofs.Carrying.{found_both, lost_behind, lost_with}
use Rattle.vcp_study_core.proofs.parts.load_part.Goals as goal

pub returns-in-Err-clause-fetches : goal.returns-in-Err-clause-fetches
returns-in-Err-clause-fetches g c = lost_with c.in-Err.ensures.fetches (λ h lost. without_script _ lost)

pub returns-in-Ok-load_verdicts-clause-fetches : goal.returns-in-Ok-load_verdicts-clause-fetches
returns-in-Ok-load_verdicts-clause-fetches g c =
    found_both c.in-Ok-load_verdicts.verdicts (record { script = c.in-Ok.script; verdicts = c.in-Ok-load_verdicts.verdicts }) c.in-Ok.ensures.fetches c.in-Ok-load_verdicts.ensures.fetches
    (λ h le script verdicts. part _ _ le script verdicts)

pub returns-clause-fetches : goal.returns-clause-fetches
returns-clause-fetches g c =
    lost_behind _ c.in-Ok.ensures.fetches c.in-Err-load_verdicts.ensures.fetches (λ h le script lost. without_verdicts c.in-Ok.script _ le script _ lost)
