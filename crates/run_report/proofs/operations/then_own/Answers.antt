use Rattle.std.proofs.Common.{rules, append_assoc, w64}
use mir.Val.{SFits}
use Rattle.std.proofs.Math.Facts.{to_z-of_z}
use Rattle.run_report.proofs.operations.then_own.Goals as goal

pub returns : goal.returns
returns g c sink name text is =
    let fits : SFits w64 c.args.number = search rules in
    let all = c.value.ensures _ _ _ (c.text.ensures sink name text is) in
    simp append_assoc at (rw (to_z-of_z {w = w64} {z = c.args.number} fits) at all)
