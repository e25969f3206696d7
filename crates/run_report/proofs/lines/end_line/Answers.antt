use Rattle.std.proofs.Common.{append_assoc, rules, refl}
use Rattle.vcp_outside.specs.Pens.{ended}
use Rattle.run_report.proofs.lines.end_line.Goals as goal

pub returns : goal.returns
returns g c = ended g.O.Sink.seen (search rules) c.begin.ensures c.end.ensures (rw append_assoc refl)
