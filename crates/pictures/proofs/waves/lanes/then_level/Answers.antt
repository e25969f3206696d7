use Rattle.std.proofs.Common.{rules, w64, SFits}
use Rattle.std.proofs.lemmas.Int.{to_z-of_z}
use Rattle.pictures.proofs.waves.lanes.then_level.Goals as goal

pub returns : goal.returns
returns g c =
    let fits : SFits w64 c.args.stretch.first = search rules in
    let drawn = rw (c.top.ensures, c.level.ensures.value) at c.then_slope.ensures in
    rw (to_z-of_z w64 c.args.stretch.first fits) at drawn
