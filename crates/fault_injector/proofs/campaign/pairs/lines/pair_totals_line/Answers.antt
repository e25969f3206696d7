use Rattle.std.proofs.Common.{◌≡◌, ℕ, List, ◌++◌, codes, decimal, append_assoc, rules}
use Rattle.vcp_outside.specs.Pens.{ended}
use Rattle.fault_injector.proofs.campaign.pairs.lines.pair_totals_line.Goals as goal

-- three words, each with its number, and the line's end
pieces : (a all b same c held end : List ℕ) → a ++ (all ++ (b ++ (same ++ (c ++ (held ++ end))))) ≡ (a ++ all) ++ (b ++ same) ++ (c ++ held) ++ end
pieces a all b same c held end = simp append_assoc

pub returns : goal.returns
returns g c =
    let t = c.args.totals.now in
    let all = rw c.groups.ensures at (c.numbered.ensures _ _ _ (c.new.ensures)) in
    let held = c.numbered-3.ensures _ _ _ (c.numbered-2.ensures _ _ _ all) in
    ended g.O.Sink.seen (search rules) held c.end.ensures (pieces (codes "pairs ") _ (codes " same ") (decimal t.same) (codes " held ") (decimal t.held) (codes "\n"))
