use Rattle.std.proofs.Common.{◌≡◌}
use Rattle.pictures.specs.WavesDrawn.{bits_below}
use Rattle.pictures.proofs.waves.stretches.is_level.Given as goal

abbrev pub invariant-cycles : goal.invariant-cycles
invariant-cycles l = l.bits ≡ bits_below l.run l.column l.cycle
