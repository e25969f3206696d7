use Rattle.std.proofs.Common.{◌≡◌, ℕ, List, ◌++◌, codes, append_assoc, rules}
use Rattle.vcp_outside.specs.Pens.{ended}
use Rattle.fault_sites.proofs.named.writing.write_script.Goals as goal

pieces : (digest lines : List ℕ) → codes "# sites named of " ++ (digest ++ (codes "\n" ++ (lines ++ codes "# end\n")))
    ≡ codes "# sites named of " ++ digest ++ codes "\n" ++ lines ++ codes "# end" ++ codes "\n"
pieces digest lines = simp append_assoc

pub returns : goal.returns
returns g c =
    let remark = c.text-pen.ensures _ _ _ (c.texts.ensures _ _ _ (c.new.ensures)) in
    let told = c.text.ensures _ _ _ (c.then_lines.ensures _ _ _ remark) in
    ended g.O.Sink.seen (search rules) told c.end.ensures (pieces _ _)
