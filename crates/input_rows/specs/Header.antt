-- The header: each column's name once, in any order, without regard to the case of ASCII letters.
use Rattle.std.specs.Prelude.{◌≡◌, ℕ, ◌+◌, ◌<◌, ◌==◌, Bool, true, false, ◌&&◌, cond, List, [], ◌∷◌, length, replicate, slice_set, All, Contains, Option, Some}
use Rattle.std.specs.Prelude.{None, option_map}
use Rattle.vcp_base.specs.declared.columns.Column.{Column}
use Rattle.vcp_base.specs.Names.{is_same_name}
use Rattle.input_rows.specs.Cells.{trimmed}

-- the place, counted from 0, of the first column that is still free and has the name
abbrev pub place_of : List Column → List Bool → List ℕ → Option ℕ
place_of [] free name = None
place_of (c ∷ columns) [] name = None
place_of (c ∷ columns) (f ∷ free) name =
    cond (f && is_same_name c.name name) (Some 0) (option_map (λ i. i + 1) (place_of columns free name))

-- the place of a field's column before the places of the fields after it
abbrev pub places_after : Option ℕ → (ℕ → Option (List ℕ)) → Option (List ℕ)
places_after None more = None
places_after (Some i) more = option_map (λ places. i ∷ places) (more i)

-- for each field the place of its column, which is free for no field after it; blanks at both ends of a field do not count
abbrev pub places_of : List Column → List Bool → List (List ℕ) → Option (List ℕ)
places_of columns free [] = Some []
places_of columns free (field ∷ fields) =
    places_after (place_of columns free (trimmed field)) (λ i. places_of columns (slice_set free i false) fields)

-- the order of a header's fields: as many fields as columns, and for each field the place of its column
abbrev pub order_of : List Column → List (List ℕ) → Option (List ℕ)
order_of columns header = cond (length header == length columns) (places_of columns (replicate (length columns) true) header) None

-- An order of so many columns: as many places as columns, each of them a column's, and each column's place among them. So it has each place
-- once.
pub record IsOrder (number : ℕ) (places : List ℕ) : Type 0 where
  pub as_many : length places ≡ number
  pub within : All (λ i. i < number) places
  pub each : (i : ℕ) → i < number → Contains places i
