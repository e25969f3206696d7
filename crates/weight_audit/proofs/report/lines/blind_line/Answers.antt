use Rattle.std.proofs.Common.{◌≡◌, ℕ, List, ◌++◌, codes, decimal, append_assoc, rules}
use Rattle.vcp_outside.specs.Pens.{ended}
use Rattle.weight_audit.proofs.report.lines.blind_line.Goals as goal

pieces : (op kind : List ℕ) → codes "blind " ++ (op ++ (codes " " ++ (kind ++ codes "\n"))) ≡ codes "blind " ++ op ++ (codes " " ++ kind) ++ codes "\n"
pieces op kind = simp append_assoc

pub returns : goal.returns
returns g c =
    let all = rw c.kind_name.ensures at (c.texts.ensures _ _ _ c.begin.ensures) in
    ended g.O.Sink.seen (search rules) all c.end.ensures (pieces (decimal c.args.op) _)
