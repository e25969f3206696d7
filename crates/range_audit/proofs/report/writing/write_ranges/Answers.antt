use Rattle.std.proofs.Common.{◌≡◌, ℕ, List, ◌++◌, codes, append_assoc, rules, refl}
use Rattle.vcp_outside.specs.Pens.{and_then, ended}
use Rattle.range_audit.proofs.report.writing.write_ranges.Goals as goal

pieces : (variables lines searched counts : List ℕ)
    → variables ++ (lines ++ (searched ++ (counts ++ codes "\n"))) ≡ variables ++ lines ++ searched ++ counts ++ codes "\n"
pieces variables lines searched counts = simp append_assoc

pub returns : goal.returns
returns g c =
    let variables = rw c.known-known.ensures at (c.then_variables-pen.ensures _ _ _ c.new-pen.ensures) in
    let lines = c.then_operations-pen.ensures _ _ _ variables in
    let counts = and_then (rw c.count_named.ensures at c.numbered.ensures) (rw c.count_able.ensures at c.numbered-2.ensures) in
    ended g.O.Sink.seen (search rules) (counts _ _ _ (c.then_search.ensures _ _ _ lines)) c.end.ensures (rw pieces refl)
