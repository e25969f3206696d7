-- Calls of an object in memory that are made to fail, each by its number, counted from 0.
use Rattle.std.specs.Prelude.{◌≡◌, ◌≢◌, ℕ, nat_eq, Bool, true, cond, List, [], IsTrue}
use Rattle.std.specs.List.{list_any}
use Rattle.vcp_outside.specs.Counts.{next_count}

-- how many calls were made, up to the last value of a count, and the numbers of those that are made to fail
pub record CallCount : Type 0 where
  pub made : ℕ
  pub failing : List ℕ

-- before the first call, where none is made to fail
abbrev pub no_calls : CallCount
no_calls = record { made = 0; failing = [] }

-- whether the call of a number is made to fail
abbrev pub fails_at : CallCount → ℕ → Bool
fails_at calls number = list_any (nat_eq number) calls.failing

-- the next call is made to fail
abbrev pub NextFails : CallCount → Type 0
NextFails calls = IsTrue (fails_at calls calls.made)

-- after one more call
abbrev pub one_more : CallCount → CallCount
one_more calls = record calls { made = next_count calls.made }

-- a count of the calls that were made to fail, after the next call
abbrev pub broken_after : CallCount → ℕ → ℕ
broken_after calls broken = cond (fails_at calls calls.made) (next_count broken) broken

-- the call of this number is made to fail too, and at the others nothing changes
pub record FailsAlso (number : ℕ) (before now : CallCount) : Type 0 where
  pub set : fails_at now number ≡ true
  pub others : (n : ℕ) → n ≢ number → fails_at now n ≡ fails_at before n
  pub made : now.made ≡ before.made
