-- Printed: what a run prints, by the definitions of its lines.
use Rattle.std.specs.Prelude.{◌≡◌, ◌≤◌, ℕ, ◌+◌, ◌==◌, Bool, true, ◌&&◌, ◌||◌, not, List, [], ◌∷◌, ◌++◌, length, codes, Some, ℤ}
use Rattle.std.specs.List.{list_all}
use Rattle.vcp_base.specs.Limits.{most_cycles, most_names}
use Rattle.vcp_base.specs.Types.{fits}
use Rattle.vcp_base.specs.declared.ty.Ty.TheVariants as ty
use Rattle.run_report.specs.Lines.{header_text, row_text}
use Rattle.pictures.specs.Ending.{mark_of}
use Rattle.pictures.specs.RunOf.{Recorded}

-- the lines of rows from a cycle on
abbrev pub rows_text : ℕ → List (List ℤ) → List ℕ
rows_text cycle [] = []
rows_text cycle (row ∷ rows) = row_text cycle row ++ rows_text (cycle + 1) rows

-- the header, the rows from cycle 0 on, and the last line
abbrev pub printed : Recorded → List ℕ
printed run = header_text run.names ++ (rows_text 0 run.rows ++ (run.ending.text ++ codes "\n"))

-- no comma, quote or end of a line stands in a text
abbrev pub is_plain : List ℕ → Bool
is_plain text = list_all (λ b. not (b == 44 || b == 34 || b == 13 || b == 10)) text

-- a row has so many values, each of 64 bits
abbrev pub is_row : ℕ → List ℤ → Bool
is_row width row = (length row == width) && list_all (fits ty.Lint) row

-- a run whose names and last line are plain, and which is within the limits
pub record IsPrintable (run : Recorded) : Type 0 where
  pub few : length run.names ≤ most_names
  pub names : list_all is_plain run.names ≡ true
  pub short : length run.rows ≤ most_cycles
  pub rows : list_all (is_row (length run.names)) run.rows ≡ true
  pub known : mark_of (length run.rows) run.ending.text ≡ Some run.ending.mark
  pub plain : is_plain run.ending.text ≡ true
