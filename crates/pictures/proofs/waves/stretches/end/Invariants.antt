use Rattle.std.proofs.Common.{◌≡◌, ◌-◌, length}
use Rattle.pictures.specs.WavesDrawn.{step_of, until, end_of}
use Rattle.pictures.proofs.waves.stretches.end.Given as goal

abbrev pub invariant-cycles : goal.invariant-cycles
invariant-cycles l = end_of l.run l.column l.start ≡ until l.run l.column (step_of l.run l.column l.start) l.cycle (length l.run.rows - l.cycle)
