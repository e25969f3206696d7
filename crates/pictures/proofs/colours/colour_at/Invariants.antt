use Rattle.std.proofs.Common.{◌≡◌}
use Rattle.pictures.specs.Colours.{seen_after}
use Rattle.pictures.proofs.colours.colour_at.Given as goal

abbrev pub invariant-distances : goal.invariant-distances
invariant-distances l = l.colour ≡ seen_after l.weights l.op l.output l.fn.seen l.after
