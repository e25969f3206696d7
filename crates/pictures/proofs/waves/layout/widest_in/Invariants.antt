use Rattle.std.proofs.Common.{ℕ, ◌≤◌, ◌-◌, List, length}
use Rattle.std.specs.List.{AllByRecursion}
use Rattle.pictures.specs.declared.waves.stretches.Stretch.{Stretch}
use Rattle.pictures.specs.WavesElements.{HasRoom}
use Rattle.pictures.proofs.Walk.{IsBefore}
use Rattle.pictures.proofs.waves.layout.widest_in.Given as goal

abbrev pub invariant-stretches : goal.invariant-stretches
invariant-stretches l = record {
  drawn : List Stretch;
  before : IsBefore l.run l.column l.at drawn;
  room : (cell : ℕ) → l.widest ≤ cell → AllByRecursion (HasRoom cell) drawn;
  few : l.widest ≤ 289;
}

abbrev pub decreases-stretches : goal.decreases-stretches
decreases-stretches l = length l.run.rows - l.at
