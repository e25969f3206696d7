use Rattle.std.proofs.Common.{append_assoc, rules}
use Rattle.std.specs.Int.{w128}
use mir.Val.{SFits}
use Rattle.std.proofs.Math.Facts.{to_z-of_z}
use Rattle.run_report.proofs.operations.then_parts.Goals as goal

pub returns : goal.returns
returns g c sink name text is =
    let parts = c.split-value in
    let fits : SFits w128 parts.result.0 = search rules in
    let value = rw (to_z-of_z {w = w128} {z = parts.result.0} fits, parts.ensures.value) at (c.long_value.ensures sink name text is) in
    let residue = rw parts.ensures.residue at (c.numbered.ensures _ _ _ value) in
    simp append_assoc at residue
