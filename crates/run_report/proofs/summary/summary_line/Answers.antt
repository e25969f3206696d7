use Rattle.std.proofs.Common.{◌≡◌, ℕ, List, ◌++◌, codes, append_assoc, rules, w64, refl}
use Rattle.std.specs.Int.{w128}
use mir.Val.{SFits}
use Rattle.std.proofs.Math.Facts.{to_z-of_z}
use Rattle.vcp_outside.specs.Pens.{ended}
use Rattle.run_report.proofs.summary.summary_line.Goals as goal

pieces : (number cycles last sum : List ℕ)
    → codes "demo " ++ (number ++ (codes " cycles " ++ (cycles ++ (codes " last " ++ (last ++ (codes " sum " ++ (sum ++ codes "\n")))))))
    ≡ codes "demo " ++ number ++ (codes " cycles " ++ cycles) ++ codes " last " ++ last ++ codes " sum " ++ sum ++ codes "\n"
pieces number cycles last sum = simp append_assoc

pub returns : goal.returns
returns g c =
    let last_fits : SFits w64 c.args.last = search rules in
    let sum_fits : SFits w128 c.args.sum = search rules in
    let cycles = c.numbered.ensures _ _ _ c.begin.ensures in
    let last = rw (to_z-of_z {w = w64} {z = c.args.last} last_fits) at (c.value.ensures _ _ _ (c.text.ensures _ _ _ cycles)) in
    let sum = rw (to_z-of_z {w = w128} {z = c.args.sum} sum_fits) at (c.long_value.ensures _ _ _ (c.text-2.ensures _ _ _ last)) in
    ended g.O.Sink.seen (search rules) sum c.end.ensures (rw pieces refl)
