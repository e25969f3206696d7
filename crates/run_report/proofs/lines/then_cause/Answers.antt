use Rattle.std.proofs.Common.{append_assoc}
use Rattle.run_report.proofs.lines.then_cause.Goals as goal

pub returns : goal.returns
returns g c sink name text is =
    let kind = rw c.stop_name.ensures at (c.texts-pen.ensures sink name text is) in
    simp append_assoc at (c.then_place.ensures _ _ _ kind)
