use Rattle.vcp_outside.proofs.Gathering.{unchanged_on, written_all}
use Rattle.vcp_outside.proofs.line.Line.end.Goals as goal

pub returns-clause-writes : goal.returns-clause-writes
returns-clause-writes g c start before text is =
    let flushed = c.flush.ensures.gathers start before _ (c.mark.ensures.gathers start before text is) in
    let opened = rw (← c.self.view_is) at flushed in
    let none = rw (← c.self.view_is) at c.flush.ensures.empty in
    written_all opened none

pub returns-clause-after_failure : goal.returns-clause-after_failure
returns-clause-after_failure g c =
    unchanged_on _ _ _ c.args.self.so_far _ c.mark.ensures.after_failure c.mark.ensures.stays_failed c.flush.ensures.after_failure
