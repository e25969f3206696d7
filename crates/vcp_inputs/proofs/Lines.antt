-- The same bytes, written otherwise.
use Rattle.std.proofs.Common.{◌≡◌, ℕ, Result, List, Option}
use Rattle.vcp_outside.specs.Written.{Writes}

pub writes_same : {T E : Type 0} {a b : Option (List ℕ)} {f g : ℕ} {p q : List ℕ} {r : Result T E} → Writes a b f g p r → q ≡ p → Writes a b f g q r
writes_same written is = rw is written
