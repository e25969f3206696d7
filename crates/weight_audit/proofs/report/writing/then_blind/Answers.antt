use Rattle.std.proofs.lemmas.List.{append-nil}
use Rattle.weight_audit.proofs.Joined.{cut-before, written-behind}
use Rattle.weight_audit.proofs.report.writing.then_blind.Goals as goal

pub returns-in-Ok : goal.returns-in-Ok
returns-in-Ok g c start before text written =
    rw (c.if-not-blind.false, c.operation.ensures) (written-behind c.blind_line.result (rw c.in-Ok.is at written) c.blind_line.ensures)

pub returns-then-not-blind : goal.returns-then-not-blind
returns-then-not-blind g c start before text written = rw (c.if-not-blind.true, append-nil text) written

pub returns-in-Err : goal.returns-in-Err
returns-in-Err g c start before text written = cut-before _ (rw c.in-Err.is at written)
