-- Counts of faults. A count never falls, and stays at its last value.
use Rattle.std.specs.Prelude.{◌≡◌, ℕ, ◌+◌, ◌-◌, ◌^◌, ◌≤◌, min, Result, Ok, Err, OnOk, OnErr}

-- the last value of a count
abbrev pub last_count : ℕ
last_count = 2 ^ 64 - 1

-- the next count; it stands still at its last value
abbrev pub next_count : ℕ → ℕ
next_count n = min (n + 1) (2 ^ 64 - 1)

-- The count rose in a call: it is greater after it, or stands at its last value.
-- The lesser of `before + 1` and the last value says both at once.
abbrev pub Rose : ℕ → ℕ → Type 0
Rose before now = min (before + 1) (2 ^ 64 - 1) ≤ now

-- The count never falls and stays within its last value. A call failed only where it rose, and after `Ok` it stands as before:
-- no failure within the call was passed over.
pub record HasCause {T E : Type 0} (before now : ℕ) (result : Result T E) : Type 0 where
  pub later : before ≤ now
  pub capped : before ≤ last_count → now ≤ last_count
  pub stayed : OnOk result (now ≡ before)
  pub failed : OnErr result (Rose before now)

-- a count after a call: one more after a failure, up to the last value, and else the same
abbrev pub count_after : {T E : Type 0} → Result T E → ℕ → ℕ
count_after (Ok _) before = before
count_after (Err _) before = min (before + 1) (2 ^ 64 - 1)
