use Rattle.vcp_core.proofs.Meanings.{none_needed}
use Rattle.vcp_core.proofs.Performed.{TaskLaws, performed_as_plain, performed_completes, performed_keeps, performed_known, performed_serves}
use Rattle.vcp_core.proofs.laws.a_performed_command.Goals as goal

pub returns : goal.returns
returns c =
    let laws : TaskLaws = record {
      meant = c.endings_have_causes.ensures.meant;
      statuses = c.endings_have_causes.ensures.statuses;
      ended = c.endings_have_causes.ensures.ended;
      left = c.endings_have_causes.ensures.given_up;
      one = c.one_task.ensures.one;
      own = c.one_task.ensures.own;
      found = c.one_task.ensures.found;
    } in
    record {
      serves = performed_serves laws;
      completes = performed_completes laws none_needed;
      keeps = performed_keeps;
      known = performed_known;
      as_plain = performed_as_plain laws c.one_task.ensures.as_plain;
    }
