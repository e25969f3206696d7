use Rattle.std.proofs.Common.{rules, refl}
use Rattle.vcp_outside.specs.Pens.{ended}
use Rattle.fault_injector.proofs.lines.totals_line.Goals as goal

pub returns : goal.returns
returns g c = ended g.O.Sink.seen (search rules) (c.then_totals.ensures _ _ _ (c.new-pen.ensures)) c.end.ensures refl
