use Rattle.std.proofs.Common.{ℕ, ◌++◌, Option, append_assoc, decimal, codes, ap, ◌∙◌}
use Rattle.fault_script.specs.Groups.{line_of}
use Rattle.verdict_tables.specs.Parts.{mark_text}
use Rattle.vcp_outside.specs.Pens.{and_then, same}
use Rattle.verdict_tables.proofs.parts.then_group.Goals as goal

pub returns-in-Some : goal.returns-in-Some
returns-in-Some g c =
    let at = decimal (line_of c.args.group.now) in
    same (and_then c.count.ensures (rw c.line-at.ensures at c.numbered.ensures))
    (ap (λ (m : Option ℕ). mark_text m ++ at) c.in-Some.is ∙ append_assoc (decimal c.in-Some.number) (codes ":") at)

pub returns-in-None : goal.returns-in-None
returns-in-None g c =
    same (rw c.line-at.ensures at c.count-in-None.ensures) (ap (λ (m : Option ℕ). mark_text m ++ decimal (line_of c.args.group.now)) c.in-None.is)
