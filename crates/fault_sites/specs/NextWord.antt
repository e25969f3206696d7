-- NextWord: a word that has to come next.
use Rattle.std.specs.Prelude.{ℕ, Bool, false, bytes_eq, List, [], ◌∷◌}

-- whether the first of these words is this one
abbrev pub first_is : List ℕ → List (List ℕ) → Bool
first_is name [] = false
first_is name (w ∷ more) = bytes_eq w name
