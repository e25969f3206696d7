use Rattle.std.proofs.Common.{◌≡◌, ℕ, List, ◌++◌, codes, decimal, append_assoc, rules}
use Rattle.vcp_outside.specs.Pens.{ended}
use Rattle.fault_injector.proofs.campaign.pairs.lines.group_line.Goals as goal

pieces : (line shows : List ℕ) → line ++ (codes " " ++ (shows ++ codes "\n")) ≡ line ++ codes " " ++ shows ++ codes "\n"
pieces line shows = simp append_assoc

pub returns : goal.returns
returns g c =
    let head = c.text-pen.ensures _ _ _ c.begin.ensures in
    ended g.O.Sink.seen (search rules) (c.then_verdict.ensures _ _ _ head) c.end.ensures (pieces (decimal c.args.line) _)
