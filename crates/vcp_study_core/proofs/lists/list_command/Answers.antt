use Rattle.vcp_study_core.proofs.Carrying.{lost, then_writes}
use Rattle.vcp_study_core.proofs.ListFaults.{of_study}
use Rattle.vcp_study_core.proofs.lists.list_command.Goals as goal

pub returns-in-Ok : goal.returns-in-Ok
returns-in-Ok g c =
    of_study c.args.source.now c.args.study (then_writes c.in-Ok.ensures.fetches (λ h b n. rw c.bytes.ensures at c.write_list.ensures))

pub returns-in-Err : goal.returns-in-Err
returns-in-Err g c = of_study c.args.source.now c.args.study (lost c.in-Err.ensures.fetches)
