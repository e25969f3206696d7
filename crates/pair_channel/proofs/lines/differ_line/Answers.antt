use Rattle.std.proofs.Common.{◌≡◌, ◌∙◌, sym, ℕ, List, ◌++◌, codes, decimal, append_assoc, rules, w64}
use mir.Val.{SFits}
use Rattle.std.proofs.Math.Facts.{to_z-of_z}
use Rattle.vcp_outside.specs.Pens.{ended}
use Rattle.pair_channel.proofs.lines.differ_line.Goals as goal

pieces : (cycle name first second : List ℕ)
    → codes "differ " ++ (cycle ++ (codes " " ++ (name ++ (codes " first " ++ (first ++ (codes " second " ++ (second ++ codes "\n")))))))
    ≡ codes "differ " ++ cycle ++ (codes " " ++ name) ++ (codes " first " ++ first) ++ (codes " second " ++ second) ++ codes "\n"
pieces cycle name first second =
    let head : List ℕ = codes "differ " ++ cycle in
    let named : List ℕ = codes " " ++ name in
    let one : List ℕ = codes " first " ++ first in
    let two : List ℕ = codes " second " ++ second in
    sym (append_assoc ((head ++ named) ++ one) two (codes "\n") ∙ append_assoc (head ++ named) one (two ++ codes "\n")
    ∙ append_assoc head named (one ++ (two ++ codes "\n")))

pub returns : goal.returns
returns g c =
    let first_fits : SFits w64 c.args.first = search rules in
    let second_fits : SFits w64 c.args.second = search rules in
    let named = rw c.bytes.ensures at (c.texts.ensures _ _ _ c.begin.ensures) in
    let one = rw (to_z-of_z {w = w64} {z = c.args.first} first_fits) at (c.signed.ensures _ _ _ named) in
    let all = rw (to_z-of_z {w = w64} {z = c.args.second} second_fits) at (c.signed-2.ensures _ _ _ one) in
    ended g.O.Sink.seen (search rules) all c.end.ensures (pieces (decimal c.args.cycle) c.args.name.now _ _)
