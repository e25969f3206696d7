use Rattle.std.proofs.Common.{◌≡◌, max, drop}
use Rattle.pictures.specs.Depths.{deepest}
use Rattle.pictures.proofs.columns.deepest.Given as goal

abbrev pub invariant-depths : goal.invariant-depths
invariant-depths l = max l.greatest (deepest (drop l.i l.depths)) ≡ deepest l.depths
