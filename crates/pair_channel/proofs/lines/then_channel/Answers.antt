use Rattle.std.proofs.Common.{◌≡◌, ℕ, List, ◌++◌, codes, append_assoc}
use Rattle.vcp_outside.specs.Pens.{written_so}
use Rattle.pair_channel.proofs.lines.then_channel.Goals as goal

refusal : (text name found expected : List ℕ)
    → text ++ (codes "refused " ++ (name ++ (codes " found " ++ (found ++ (codes " expected " ++ expected)))))
    ≡ text ++ (codes "refused " ++ name) ++ (codes " found " ++ found) ++ (codes " expected " ++ expected)
refusal text name found expected = simp append_assoc

stop : (text number kind : List ℕ) → text ++ (number ++ (codes " " ++ kind)) ≡ text ++ number ++ (codes " " ++ kind)
stop text number kind = simp append_assoc

pub returns-in-Stopped : goal.returns-in-Stopped
returns-in-Stopped g c =
    rw c.in-Stopped.is (λ sink name text is.
    let kind = rw c.stop_name.ensures at (c.texts.ensures _ _ _ (c.count.ensures sink name text is)) in
    written_so kind (stop _ _ _))

pub returns-in-Refused : goal.returns-in-Refused
returns-in-Refused g c =
    rw c.in-Refused.is (λ sink name text is.
    let name = rw (c.bytes.ensures, c.output_name.ensures) at (c.texts-in-Refused.ensures sink name text is) in
    written_so (c.numbered-in-Refused.ensures _ _ _ (c.numbered.ensures _ _ _ name)) (refusal _ _ _ _))
