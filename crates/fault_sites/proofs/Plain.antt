-- Plain: hexadecimal digits are no control characters.
use Rattle.std.proofs.Common.{◌≡◌, ℕ, suc, ◌/◌, ◌%◌, ◌<◌, ◌≤◌, Bool, true, ◌&&◌, nat_le, List, [], ◌∷◌, slice_index, All, arith, refl}
use Rattle.std.proofs.lemmas.Bool.{and_parts}
use Rattle.std.proofs.lemmas.Bool.Decides.{nat_tests}
use Rattle.std.proofs.lemmas.List.Elements.{All-cons, All-nil, All-get_or}
use Rattle.hex.specs.Hex.{IsBytes, encode_lower, encode_with, lower_digits}

abbrev all_plain : List ℕ → Bool
all_plain [] = true
all_plain (c ∷ rest) = nat_le 32 c && all_plain rest

from_test : (xs : List ℕ) → all_plain xs ≡ true → All (λ b. 32 ≤ b) xs
from_test [] h = All-nil (λ b. 32 ≤ b)
from_test (c ∷ rest) h =
    let parts = and_parts (nat_le 32 c) (all_plain rest) h in
    let here : 32 ≤ c = grind (arith, nat_tests, parts.0) in
    All-cons (λ b. 32 ≤ b) c rest here (from_test rest parts.1)

digit_plain : (d : ℕ) → d < 16 → 32 ≤ slice_index lower_digits d
digit_plain d h = All-get_or (λ b. 32 ≤ b) lower_digits d 0 h (from_test lower_digits refl)

-- the digits of bytes
pub plain : (xs : List ℕ) → IsBytes xs → All (λ b. 32 ≤ b) (encode_lower xs)
unfolding encode_with
plain [] h = All-nil (λ b. 32 ≤ b)
plain (b ∷ rest) h =
    let fits : b < 256 = h 0 in
    All-cons (λ b. 32 ≤ b) (slice_index lower_digits (b / 16)) (slice_index lower_digits (b % 16) ∷ encode_lower rest) (digit_plain (b / 16) (omega arith))
    (All-cons (λ b. 32 ≤ b) (slice_index lower_digits (b % 16)) (encode_lower rest) (digit_plain (b % 16) (omega arith)) (plain rest (λ k. h (suc k))))
