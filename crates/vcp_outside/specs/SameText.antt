-- Laws of what is written and gathered: the text is the same however it is put together.
use mathlib.Core.Path.{subst, sym}
use Rattle.std.specs.Prelude.{◌≡◌, ℕ, List, Option, Result}
use Rattle.vcp_outside.specs.Written.{Writes}
use Rattle.vcp_outside.specs.Gathering.{Gathered, IsGathered}

-- the same bytes, written otherwise
pub written_same : {T E : Type 0} {old new : Option (List ℕ)} {before now : ℕ} {bytes other : List ℕ} {r : Result T E}
    → Writes old new before now bytes r → other ≡ bytes → Writes old new before now other r
written_same {old = old} {new = new} {before = before} {now = now} {r = r} written is = subst (λ text. Writes old new before now text r) (sym is) written

-- the same text, gathered otherwise
pub gathered_same : {start now : Option (List ℕ)} {before faults : ℕ} {text other : List ℕ} {line : Gathered}
    → IsGathered start now before faults text line → other ≡ text → IsGathered start now before faults other line
gathered_same {start = start} {now = now} {before = before} {faults = faults} {line = line} gathered is =
    subst (λ bytes. IsGathered start now before faults bytes line) (sym is) gathered
