-- RowLists: rows of one width, one behind another.
use Rattle.std.specs.Prelude.{ℕ, zero, suc, List, [], ◌∷◌, take, drop, ℤ}

-- so many rows of this width, from the front of the values
abbrev pub rows_in : ℕ → ℕ → List ℤ → List (List ℤ)
rows_in zero width values = []
rows_in (suc more) width values = take width values ∷ rows_in more width (drop width values)
