use Rattle.std.proofs.Common.{◌≡◌, ℕ, List, ◌++◌, codes, append_assoc, rules, refl}
use Rattle.pictures.specs.DotText.{beginning}
use Rattle.vcp_outside.specs.Pens.{ended, and_then}
use Rattle.pictures.proofs.dot.text.write_dot.Goals as goal

joined : (a b : List ℕ) → a ++ (b ++ codes "}\n") ≡ a ++ b ++ codes "}" ++ codes "\n"
joined a b = simp append_assoc

pub returns : goal.returns
returns g c =
    let begun = c.text-pen.ensures _ _ _ (c.new.ensures) in
    let graph = and_then c.then_nodes-pen.ensures (and_then c.then_edges-pen.ensures c.then_cells.ensures) in
    let all = c.text.ensures _ _ _ (graph _ _ _ begun) in
    rw (joined beginning _) (ended g.O.Sink.seen (search rules) all c.end.ensures refl)
