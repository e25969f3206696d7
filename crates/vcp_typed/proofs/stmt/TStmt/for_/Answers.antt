use Rattle.std.proofs.Common.{w64}
use Rattle.std.proofs.lemmas.Int.{to_z-of_z}
use mir.Val.{SFits}
use Rattle.vcp_typed.proofs.Rows.{tree-for}
use Rattle.vcp_typed.proofs.stmt.TStmt.for_.Goals as goal

pub returns : goal.returns
returns c =
    let first : SFits w64 c.args.first = c.ranges.first in
    let by : SFits w64 c.args.by = c.ranges.by in
    simp to_z-of_z (tree-for c.args.slot c.args.first c.args.by c.args.turns c.args.body c.args.spot)
