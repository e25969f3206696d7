-- Words: the words of a line.
use Rattle.std.specs.Prelude.{ℕ, Bool, true, false, cond, List, [], ◌∷◌, Option, Some, None}
use Rattle.std.specs.List.{filter, slice_split}
use Rattle.vcp_base.specs.Blanks.{is_blank}

-- a part of a line with a byte in it
abbrev pub is_word : List ℕ → Bool
is_word [] = false
is_word (c ∷ part) = true

-- the words of a line: what stands between spaces and tabs
abbrev pub words : List ℕ → List (List ℕ)
words line = filter is_word (slice_split is_blank line)

-- no word is left
abbrev pub is_end : List (List ℕ) → Bool
is_end [] = true
is_end (w ∷ more) = false

-- the one word that is left, where it is one
abbrev pub only : List (List ℕ) → Option (List ℕ)
only [] = None
only (w ∷ more) = cond (is_end more) (Some w) None
