-- Names: what may be a name, and which names are one. Letters are those of ASCII.
use Rattle.std.specs.Prelude.{ℕ, ◌≡◌, ◌==◌, ◌≤◌, Bool, true, false, nat_le, ◌&&◌, ◌||◌, List, [], ◌∷◌, length, map, bytes_eq, All}
use Rattle.std.specs.Char.{to_ascii_lowercase}
use Rattle.std.specs.List.{list_all}
use Rattle.vcp_base.specs.Limits.{most_name_bytes}

-- the code of a letter or of `_`
abbrev pub is_letter : ℕ → Bool
is_letter c = (nat_le 65 c && nat_le c 90) || (nat_le 97 c && nat_le c 122) || (c == 95)

-- the code of a letter, `_` or a digit
abbrev pub is_letter_or_digit : ℕ → Bool
is_letter_or_digit c = is_letter c || (nat_le 48 c && nat_le c 57)

-- a letter or `_`, and then letters, digits and `_`
abbrev pub is_name : List ℕ → Bool
is_name [] = false
is_name (c ∷ cs) = is_letter c && list_all is_letter_or_digit cs

-- the two are one name: equal after A to Z are mapped onto a to z
abbrev pub SameName : List ℕ → List ℕ → Type 0
SameName a b = map to_ascii_lowercase a ≡ map to_ascii_lowercase b

-- the test of it
abbrev pub is_same_name : List ℕ → List ℕ → Bool
is_same_name a b = bytes_eq (map to_ascii_lowercase a) (map to_ascii_lowercase b)

-- a name may follow the things before it, each of which has a name: it is one, and is none of theirs
pub record NameFits {X : Type 0} (name_of : X → List ℕ) (before : List X) (n : List ℕ) : Type 0 where
  pub short : length n ≤ most_name_bytes
  pub letters : is_name n ≡ true
  pub new : All (λ x. SameName (name_of x) n → ⊥) before
