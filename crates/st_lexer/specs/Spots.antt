-- Spots: lines and columns count from 1, a line ends at each LF, and a column is a byte.
use Rattle.std.specs.Prelude.{ℕ, ◌+◌, ◌==◌, Bool, not, List, take, reverse, count_by}
use Rattle.std.specs.List.{prefix_len}
use Rattle.vcp_base.specs.declared.spot.Spot.{Spot}

-- the end of a line
abbrev pub is_lf : ℕ → Bool
is_lf b = b == 10

-- any other byte
abbrev pub is_not_lf : ℕ → Bool
is_not_lf b = not (b == 10)

-- the spot of the byte that follows these bytes, the first of a text: one line more than they have LFs, one column more than bytes follow the last LF
unfoldable pub spot_after : List ℕ → Spot
spot_after before = record { line = 1 + count_by is_lf before; col = 1 + prefix_len is_not_lf (reverse before) }

-- the spot of byte p of a text, counted from 0
abbrev pub spot_at : List ℕ → ℕ → Spot
spot_at text p = spot_after (take p text)
