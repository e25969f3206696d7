use Rattle.vcp_study_core.proofs.Carrying.{lost, then_writes}
use Rattle.vcp_study_core.proofs.script.script_of_image.Goals as goal

pub returns-in-Ok : goal.returns-in-Ok
returns-in-Ok g c m = then_writes c.in-Ok.ensures.fetches (λ h b n. rw c.bytes.ensures at c.write_named.ensures)

pub returns-in-Err : goal.returns-in-Err
returns-in-Err g c m = lost c.in-Err.ensures.fetches
