use Rattle.vcp_outside.proofs.Gathering.{flushed}
use Rattle.vcp_outside.proofs.line.Line.flush.Goals as goal

pub returns-clause-gathers : goal.returns-clause-gathers
returns-clause-gathers g c start before text is =
    let inside = rw (← c.self.view_is) at is in
    flushed _ _ _ _ _ _ _ _ _ _ inside c.clear.ensures (λ (front : _). rw c.as_slice.ensures at (c.then-self-inside.ensures.writes start before front))
