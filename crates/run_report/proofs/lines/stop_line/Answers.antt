use Rattle.std.proofs.Common.{append_assoc, rules}
use Rattle.vcp_outside.specs.Pens.{ended}
use Rattle.run_report.proofs.lines.stop_line.Goals as goal

pub returns : goal.returns
returns g c = ended g.O.Sink.seen (search rules) (c.then_turns.ensures _ _ _ c.begin_stop-pen.ensures) c.end.ensures (simp append_assoc)
