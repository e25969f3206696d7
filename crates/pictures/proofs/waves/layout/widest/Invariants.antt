use Rattle.std.proofs.Common.{ℕ, ◌≤◌}
use Rattle.std.specs.List.{AllByRecursion}
use Rattle.vcp_outside.specs.Drawing.{each_below}
use Rattle.pictures.specs.WavesDrawn.{lane}
use Rattle.pictures.specs.WavesElements.{HasRoom}
use Rattle.pictures.proofs.waves.layout.widest.Given as goal

abbrev pub invariant-columns : goal.invariant-columns
invariant-columns l = record {
  room : (cell : ℕ) → l.widest ≤ cell → AllByRecursion (HasRoom cell) (each_below (lane l.run) l.column);
  few : l.widest ≤ 289;
}
