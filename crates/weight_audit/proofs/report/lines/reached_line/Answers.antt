use Rattle.std.proofs.Common.{◌≡◌, ℕ, List, ◌++◌, codes, decimal, append_assoc, rules}
use Rattle.vcp_outside.specs.Pens.{ended}
use Rattle.weight_audit.proofs.report.lines.reached_line.Goals as goal

pieces : (name after reached blind : List ℕ)
    → name ++ (codes " " ++ (after ++ (codes " reached " ++ (reached ++ (codes " blind " ++ (blind ++ codes "\n"))))))
    ≡ name ++ (codes " " ++ after) ++ (codes " reached " ++ reached) ++ (codes " blind " ++ blind) ++ codes "\n"
pieces name after reached blind = simp append_assoc

pub returns : goal.returns
returns g c =
    let named = rw c.bytes.ensures at (c.text.ensures _ _ _ c.new.ensures) in
    let all = c.numbered-3.ensures _ _ _ (c.numbered-2.ensures _ _ _ (c.numbered.ensures _ _ _ named)) in
    ended g.O.Sink.seen (search rules) all c.end.ensures (pieces c.args.name.now (decimal c.args.after) (decimal c.args.reached) (decimal c.args.blind))
