-- Where the digits of a value are in a line.
use Rattle.std.proofs.Common.{◌≡◌, ◌≤◌, ◌+◌, ◌∙◌, ap, ℕ, List, [], ◌∷◌, ◌++◌, length, arith}
use Rattle.std.proofs.lemmas.List.{length-append}
use Rattle.vcp_outside.specs.Gathering.{Gathered, EndsAt}

-- behind what was pending and a byte
pub behind_a_byte : (old more new : Gathered) (byte : ℕ) (digits : List ℕ)
    → (length old.pending + 1 ≤ 256 → more ≡ record old { pending = old.pending ++ byte ∷ [] })
    → (length more.pending + length digits ≤ 256 → new ≡ record more { pending = more.pending ++ digits })
    → length old.pending + 1 + length digits ≤ 256 → EndsAt new.pending (length old.pending + 1) digits
behind_a_byte old more new byte digits marked told room =
    let long : length more.pending ≡ length old.pending + 1 =
    ap (λ (l : Gathered). length l.pending) (marked (omega arith)) ∙ length-append old.pending (byte ∷ []) in
    record { front = more.pending; place = long; joined = ap (λ (l : Gathered). l.pending) (told (omega (arith, long))) }
