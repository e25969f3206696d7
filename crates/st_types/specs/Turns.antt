-- Turns: the values of a FOR's control variable.
use Rattle.std.specs.Prelude.{ℕ, zero, suc, ℤ, ◌+ℤ◌}

-- the value in a turn, counted from 0: first, first + by and so on
abbrev pub turn_value : ℤ → ℤ → ℕ → ℤ
turn_value first by zero = first
turn_value first by (suc n) = turn_value (first +ℤ by) by n
