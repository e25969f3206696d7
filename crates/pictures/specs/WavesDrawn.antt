-- WavesDrawn: what is drawn of the values of a run: each column in stretches, in which the value changes by the same amount with each cycle, or doesn't.
use Rattle.std.specs.Prelude.{ℕ, zero, suc, ◌+◌, ◌-◌, Bool, true, ◌&&◌, ◌||◌, cond, nat_lt, List, [], ◌∷◌, length, slice_index_or, ℤ, pos, ◌-ℤ◌}
use Rattle.std.specs.Ordering.{int_eq}
use Rattle.vcp_outside.specs.Drawing.{each_below}
use Rattle.pictures.specs.declared.waves.stretches.Stretch.{Stretch}
use Rattle.pictures.specs.RunOf.{Recorded}

-- the value in a column in a cycle
abbrev pub value_at : Recorded → ℕ → ℕ → ℤ
value_at run column cycle = slice_index_or (slice_index_or run.rows cycle []) column (pos 0)

abbrev pub is_bit : ℤ → Bool
is_bit v = int_eq v (pos 0) || int_eq v (pos 1)

-- the values of a column in the cycles below this one are 0 or 1
abbrev pub bits_below : Recorded → ℕ → ℕ → Bool
bits_below run column zero = true
bits_below run column (suc cycle) = bits_below run column cycle && is_bit (value_at run column cycle)

-- a column is drawn as a level where all its values are 0 or 1
abbrev pub is_level : Recorded → ℕ → Bool
is_level run column = bits_below run column (length run.rows)

-- ---- one stretch

-- by how much the value of a cycle is greater than that of the cycle before
abbrev pub change_at : Recorded → ℕ → ℕ → ℤ
change_at run column cycle = value_at run column cycle -ℤ value_at run column (cycle - 1)

-- the step from a cycle on: the change, where the next two changes are the same, else none
abbrev pub step_of : Recorded → ℕ → ℕ → ℤ
step_of run column cycle =
    cond (nat_lt (cycle + 2) (length run.rows) && int_eq (change_at run column (cycle + 1)) (change_at run column (cycle + 2)))
    (change_at run column (cycle + 1)) (pos 0)

-- the first cycle from this one on whose change isn't this step, where so many are left
abbrev pub until : Recorded → ℕ → ℤ → ℕ → ℕ → ℕ
until run column step cycle zero = cycle
until run column step cycle (suc left) = cond (int_eq (change_at run column cycle) step) (until run column step (cycle + 1) left) cycle

-- a stretch goes on as long as the value changes by the step at its start
abbrev pub end_of : Recorded → ℕ → ℕ → ℕ
end_of run column start = until run column (step_of run column start) (start + 1) (length run.rows - (start + 1))

-- the stretch of a column from a cycle on
abbrev pub stretch_of : Recorded → ℕ → ℕ → Stretch
stretch_of run column start = record {
  column = column;
  start = start;
  end = end_of run column start;
  first = value_at run column start;
  last = value_at run column (end_of run column start - 1);
  is_level = is_level run column;
}

-- ---- all stretches

-- those of a column from a cycle on, one behind the other; there are no more than cycles
abbrev pub stretches_from : Recorded → ℕ → ℕ → ℕ → List Stretch
stretches_from run column start zero = []
stretches_from run column start (suc most) =
    cond (nat_lt start (length run.rows)) (stretch_of run column start ∷ stretches_from run column (end_of run column start) most) []

abbrev pub lane : Recorded → ℕ → List Stretch
lane run column = stretches_from run column 0 (length run.rows)

-- what is drawn of the values, column by column
abbrev pub lanes : Recorded → List Stretch
lanes run = each_below (lane run) (length run.names)
