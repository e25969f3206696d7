use Rattle.std.proofs.Common.{◌∙◌, sym, rules, w64}
use mir.Val.{SFits}
use Rattle.std.proofs.Math.Facts.{to_z-of_z}
use Rattle.vcp_outside.specs.Pens.{and_then}
use Rattle.range_audit.proofs.report.lines.then_range.Goals as goal

pub returns-then-is_empty : goal.returns-then-is_empty
returns-then-is_empty g c = rw (sym c.is_empty.ensures.value ∙ c.if-is_empty.true) c.text.ensures

pub returns-else-is_empty : goal.returns-else-is_empty
returns-else-is_empty g c =
    let low_fits : SFits w64 c.args.range.low = search rules in
    let high_fits : SFits w64 c.args.range.high = search rules in
    let low = rw (to_z-of_z {w = w64} {z = c.args.range.low} low_fits) at c.signed.ensures in
    let high = rw (to_z-of_z {w = w64} {z = c.args.range.high} high_fits) at c.signed-else-is_empty.ensures in
    rw (sym c.is_empty.ensures.value ∙ c.if-is_empty.false) (and_then low high)
