use Rattle.std.proofs.Common.{rules, w64, SFits}
use Rattle.std.proofs.lemmas.Int.{to_z-of_z}
use Rattle.pictures.proofs.waves.lanes.then_ramp.Goals as goal

pub returns : goal.returns
returns g c =
    let first : SFits w64 c.args.stretch.first = search rules in
    let last : SFits w64 c.args.stretch.last = search rules in
    let drawn = rw (c.height_by-from.ensures, c.height_by-to.ensures) at c.then_slope.ensures in
    let begun = rw (to_z-of_z w64 c.args.stretch.first first) at drawn in
    rw (to_z-of_z w64 c.args.stretch.last last) at begun
