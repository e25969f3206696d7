use Rattle.std.proofs.Common.{append_assoc}
use Rattle.run_report.proofs.lines.begin_stop.Goals as goal

pub returns : goal.returns
returns g c = simp append_assoc at (c.then_cause.ensures _ _ _ (c.text-pen.ensures _ _ _ c.begin.ensures))
