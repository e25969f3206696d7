use Rattle.vcp_inputs.specs.Files.{FileRead}
use Rattle.std.proofs.Common.{ap, Err}
use Rattle.vcp_study_core.proofs.Carrying.{loaded, not_loaded}
use Rattle.vcp_study_core.proofs.loading.bytes_under.Goals as goal

pub returns-in-Ok-clause-fetches : goal.returns-in-Ok-clause-fetches
returns-in-Ok-clause-fetches g c =
    loaded (λ h b n r. FileRead h c.args.name.now c.args.limit b n r) c.args.name.now _ _ _ c.in-Ok.ensures.reads c.in-Ok.ensures.ended c.in-Ok.ensures.held
    c.in-Ok.ensures.later c.in-Ok.ensures.broken_later

pub returns-in-Err-clause-fetches : goal.returns-in-Err-clause-fetches
returns-in-Err-clause-fetches g c =
    rw c.bytes.ensures
    (not_loaded (λ h b n r. FileRead h c.args.name.now c.args.limit b n r) c.args.name.now _ _ c.in-Err.input c.in-Err.ensures.reads
    (λ is. c.in-Err.ensures.unread (ap Err is)) c.in-Err.ensures.held c.in-Err.ensures.later c.in-Err.ensures.broken_later)
