-- Values: a list of integers read at any place.
use Rattle.std.specs.Prelude.{ℕ, ℤ, pos, List, slice_index_or}

-- the value at place i, counted from 0; 0 where there is none
abbrev pub at : List ℤ → ℕ → ℤ
at values i = slice_index_or values i (pos 0)
