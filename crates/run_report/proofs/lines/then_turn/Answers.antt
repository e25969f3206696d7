use Rattle.std.proofs.Common.{rules, append_assoc, w64}
use mir.Val.{SFits}
use Rattle.std.proofs.Math.Facts.{to_z-of_z}
use Rattle.run_report.proofs.lines.then_turn.Goals as goal

pub returns : goal.returns
returns g c sink name text is =
    let fits : SFits w64 c.args.value = search rules in
    let named = c.texts.ensures sink name text is in
    let all = c.value.ensures _ _ _ (c.text.ensures _ _ _ named) in
    simp append_assoc at (rw (to_z-of_z {w = w64} {z = c.args.value} fits, c.bytes.ensures) at all)
