-- Lines: the lines of a script with their numbers.
use Rattle.std.specs.Prelude.{ℕ, ◌+◌, ◌==◌, Bool, true, cond, List, [], ◌∷◌}

-- a line of a text: its number, counted from 1, and its bytes
pub record Line : Type 0 where
  pub number : ℕ
  pub text : List ℕ

-- an empty line, or one whose first byte is `#`
abbrev pub is_skipped : List ℕ → Bool
is_skipped [] = true
is_skipped (c ∷ text) = c == 35

-- the lines that are not skipped, of these lines, the first of which has this number
abbrev pub read_lines : ℕ → List (List ℕ) → List Line
read_lines number [] = []
read_lines number (text ∷ more) =
    cond (is_skipped text) (read_lines (number + 1) more) (record { number = number; text = text } ∷ read_lines (number + 1) more)
