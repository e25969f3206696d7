-- Differences: the first place where two rows of values differ.
use Rattle.std.specs.Prelude.{ℕ, suc, cond, List, [], ◌∷◌, Option, Some, None, ℤ}
use Rattle.vcp_base.specs.Kinds.{same}

-- a place that has different values in two rows: its number, counted from 0, and the value in each
pub record Difference : Type 0 where
  pub place : ℕ
  pub first : ℤ
  pub second : ℤ

-- the first place, counted from `number`, where two rows have different values; what one row has beyond the other's end isn't looked at
abbrev pub first_difference : List ℤ → List ℤ → ℕ → Option Difference
first_difference [] others number = None
first_difference (a ∷ row) [] number = None
first_difference (a ∷ row) (b ∷ others) number =
    cond (same a b) (first_difference row others (suc number)) (Some (record { place = number; first = a; second = b }))
