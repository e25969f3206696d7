use Rattle.std.proofs.Common.{◌≡◌, ℕ, List, ◌++◌, codes, decimal, append_assoc, rules}
use Rattle.pair_channel.specs.PairLines.{channel_text}
use Rattle.vcp_outside.specs.Pens.{ended}
use Rattle.pair_channel.proofs.lines.parted_line.Goals as goal

pieces : (cycle first second : List ℕ)
    → codes "parted " ++ (cycle ++ (codes " first " ++ (first ++ (codes " second " ++ (second ++ codes "\n")))))
    ≡ codes "parted " ++ cycle ++ codes " first " ++ first ++ codes " second " ++ second ++ codes "\n"
pieces cycle first second = simp append_assoc

pub returns : goal.returns
returns g c =
    let one = c.then_channel.ensures _ _ _ (c.text-pen.ensures _ _ _ c.begin.ensures) in
    let two = c.then_channel-2.ensures _ _ _ (c.text-pen-2.ensures _ _ _ one) in
    ended g.O.Sink.seen (search rules) two c.end.ensures (pieces (decimal c.args.cycle) (channel_text c.args.graph.now c.args.first.now) (channel_text c.args.graph.now c.args.second.now))
