use Rattle.vcp_study_core.proofs.Carrying.{lost, only_writes, then_writes}
use Rattle.vcp_study_core.proofs.ranges.ranges_of_image.Goals as goal

pub returns-in-Ok : goal.returns-in-Ok
returns-in-Ok g c end m =
    rw c.in-Some.is (then_writes (c.in-Ok.ensures end) (λ h b n. rw c.deref.ensures.value at c.write_ranges.ensures))

pub returns-in-Err : goal.returns-in-Err
returns-in-Err g c end m = rw c.in-Some.is (lost (c.in-Err.ensures end))

pub returns-in-None : goal.returns-in-None
returns-in-None g c end m = rw c.in-None.is (only_writes end (λ h b n. c.write_ranges-in-None.ensures))
