-- Counted: the readings of cycles, with how many groups they make.
use Rattle.std.specs.Prelude.{◌≡◌, ◌≤◌, ℕ, Bool, true, false, length}
use Rattle.op_graph.specs.Lists.{Lists}
use Rattle.fault_sites.specs.declared.rests.CycleReadings.{CycleReadings}
use Rattle.fault_sites.specs.declared.rests.RunReadings.{RunReadings}
use Rattle.fault_sites.specs.Readings.{AreReadings}
use Rattle.fault_sites.specs.Rests.{groups_in}

-- of a cycle behind which there is another one or none
pub record IsCounted (g : Lists) (more : Bool) (r : CycleReadings) : Type 0 where
  pub readings : AreReadings g more r.by_word.items
  pub groups : (n : ℕ) → r.groups ≡ length (groups_in g more n)
  pub few : r.groups ≤ 2130303778816

-- of all cycles
pub record AreCounted (g : Lists) (r : RunReadings) : Type 0 where
  pub going : IsCounted g true r.going
  pub last : IsCounted g false r.last
