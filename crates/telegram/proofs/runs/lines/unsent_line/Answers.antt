use Rattle.std.proofs.Common.{◌≡◌, ℕ, List, ◌++◌, codes, decimal, append_assoc, rules}
use Rattle.vcp_outside.specs.Pens.{ended}
use Rattle.telegram.proofs.runs.lines.unsent_line.Goals as goal

pieces : (cycle id : List ℕ) → codes "unsent " ++ (cycle ++ (codes " " ++ (id ++ codes "\n"))) ≡ (codes "unsent " ++ cycle) ++ (codes " " ++ id) ++ codes "\n"
pieces cycle id = simp append_assoc

pub returns : goal.returns
returns g c =
    ended g.O.Sink.seen (search rules) (c.numbered.ensures _ _ _ c.begin.ensures) c.end.ensures (pieces (decimal c.args.cycle) (decimal c.args.id))
