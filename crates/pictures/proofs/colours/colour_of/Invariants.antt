use Rattle.std.proofs.Common.{◌≡◌}
use Rattle.pictures.specs.Colours.{colour_of}
use Rattle.pictures.proofs.colours.colour_of.Given as goal

abbrev pub invariant-outputs : goal.invariant-outputs
invariant-outputs l = l.colour ≡ colour_of l.weights l.op l.distances l.output
