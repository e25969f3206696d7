use Rattle.std.proofs.Common.{◌≤◌, ◌^◌, unsigned_abs, rules, w64}
use Rattle.std.specs.Int.{w128}
use Rattle.std.specs.Int.Signed.{nat_abs-le}
use mir.Val.{SFits}
use Rattle.std.proofs.Math.Facts.{to_z-of_z}
use Rattle.vcp_core.proofs.DemoRun.{row-behind}
use Rattle.vcp_core.proofs.demo.SumsReleasedRows.take.Goals as goal

pub returns-clause-keeps : goal.returns-clause-keeps
returns-clause-keeps g c rows kept =
    let value = c.first_value-value.result in
    let next = c.saturating_add-self.result in
    let sum = c.args.self.now.sum in
    let value_fits : SFits w64 c.first_value-value.result = search rules in
    let value_fits_long : SFits w128 c.first_value-value.result = search rules in
    let sum_fits : SFits w128 c.args.self.now.sum = search rules in
    let next_fits : SFits w128 c.saturating_add-self.result = search rules in
    let next_is = rw (to_z-of_z {w = w128} {z = sum} sum_fits, to_z-of_z {w = w64} {z = value} value_fits, to_z-of_z {w = w128} {z = value} value_fits_long)
    at c.saturating_add-self.ensures in
    let size : unsigned_abs c.first_value-value.result ≤ 2 ^ 63 = nat_abs-le c.first_value-value.result c.first_value-value.type_inv in
    rw (to_z-of_z {w = w64} {z = value} value_fits, to_z-of_z {w = w128} {z = next} next_fits, c.first_value-value.ensures)
    (row-behind c.args.self.now.last sum next rows c.args.outputs.now kept (rw c.first_value-value.ensures at next_is) (rw c.first_value-value.ensures at size))
