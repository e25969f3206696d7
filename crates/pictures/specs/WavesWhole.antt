-- WavesWhole: each value of a run is drawn by one stretch, in its column and its cycle.
use Rattle.std.specs.Prelude.{◌≡◌, ◌<◌, ℕ, ◌+◌, ◌-◌, ◌==◌, ◌&&◌, Bool, cond, nat_le, nat_lt, List, [], ◌∷◌, length, ℤ, pos, ◌+ℤ◌, ◌*ℤ◌}
use Rattle.pictures.specs.declared.waves.stretches.Stretch.{Stretch}
use Rattle.pictures.specs.RunOf.{Recorded}
use Rattle.pictures.specs.WavesDrawn.{value_at}

-- a stretch is of this column and has this cycle
abbrev pub is_in : ℕ → ℕ → Stretch → Bool
is_in column cycle s = s.column == column && (nat_le s.start cycle && nat_lt cycle s.end)

-- what is drawn there
abbrev pub drawn_in : ℕ → ℕ → List Stretch → List Stretch
drawn_in column cycle [] = []
drawn_in column cycle (s ∷ more) = cond (is_in column cycle s) (s ∷ drawn_in column cycle more) (drawn_in column cycle more)

-- the value so many cycles behind the start of a stretch in which it changes by a step
abbrev pub value_behind : Stretch → ℤ → ℕ → ℤ
value_behind s step cycles = s.first +ℤ pos cycles *ℤ step

-- one stretch is drawn there, and it tells the value: from the first to the last value all steps are the same
pub record IsToldOnce (run : Recorded) (column cycle : ℕ) (drawn : List Stretch) : Type 0 where
  pub stretch : Stretch
  pub once : drawn ≡ stretch ∷ []
  pub step : ℤ
  pub here : value_at run column cycle ≡ value_behind stretch step (cycle - stretch.start)
  pub last : stretch.last ≡ value_behind stretch step (stretch.end - (stretch.start + 1))

-- in each column in each cycle the value there is drawn, and nothing else; and nothing is drawn elsewhere
pub record IsWhole (run : Recorded) (drawn : List Stretch) : Type 0 where
  pub once : (column cycle : ℕ) → column < length run.names → cycle < length run.rows → IsToldOnce run column cycle (drawn_in column cycle drawn)
  pub no_other_column : (column cycle : ℕ) → length run.names < column + 1 → drawn_in column cycle drawn ≡ []
  pub no_other_cycle : (column cycle : ℕ) → length run.rows < cycle + 1 → drawn_in column cycle drawn ≡ []
