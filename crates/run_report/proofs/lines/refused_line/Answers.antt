use Rattle.std.proofs.Common.{rules, refl}
use Rattle.vcp_outside.specs.Pens.{ended}
use Rattle.run_report.proofs.lines.refused_line.Goals as goal

pub returns : goal.returns
returns g c = ended g.O.Sink.seen (search rules) (c.then_refused.ensures _ _ _ c.new.ensures) c.end.ensures refl
