use Rattle.std.proofs.Common.{◌≡◌, ℕ, List, ◌++◌, codes, decimal, append_assoc, rules}
use Rattle.vcp_outside.specs.Pens.{ended}
use Rattle.telegram.proofs.runs.lines.end_line.Goals as goal

pieces : (cycles delivered : List ℕ)
    → codes "end " ++ (cycles ++ (codes " delivered " ++ (delivered ++ codes "\n"))) ≡ (codes "end " ++ cycles) ++ (codes " delivered " ++ delivered) ++ codes "\n"
pieces cycles delivered = simp append_assoc

pub returns : goal.returns
returns g c =
    let all = c.numbered.ensures _ _ _ c.begin.ensures in
    ended g.O.Sink.seen (search rules) all c.end.ensures (pieces (decimal c.args.cycles) (decimal c.args.delivered))
