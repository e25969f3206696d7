-- Seen: what contracts see of a unit, at one moment.
use Rattle.std.specs.Prelude.{ℕ, List, Option, ◌≡◌, ◌<◌, ◌-◌, ◌^◌}
use Rattle.coded_unit.specs.Log.{Entry}

-- the calls so far with their answers, in order, where they are told; how many answers were not the right ones, up to 2^64 - 1
pub record UnitSeen : Type 0 where
  pub log : Option (List Entry)
  pub wrong : ℕ

-- a count that stops at 2^64 - 1 is as it was, and below that value, so nothing was counted between
abbrev pub StoodStill : ℕ → ℕ → Type 0
StoodStill before after = (after ≡ before) × (before < 2 ^ 64 - 1)

-- no answer of the unit was wrong between these moments
abbrev pub StaysHonest : UnitSeen → UnitSeen → Type 0
StaysHonest before after = StoodStill before.wrong after.wrong
