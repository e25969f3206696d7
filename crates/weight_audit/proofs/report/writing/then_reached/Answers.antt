use Rattle.weight_audit.proofs.Joined.{cut-before, written-behind}
use Rattle.weight_audit.proofs.report.writing.then_reached.Goals as goal

pub returns-in-Ok : goal.returns-in-Ok
returns-in-Ok g c start before text written = written-behind c.reached_line.result (rw c.in-Ok.is at written) c.reached_line.ensures

pub returns-in-Err : goal.returns-in-Err
returns-in-Err g c start before text written = cut-before _ (rw c.in-Err.is at written)
