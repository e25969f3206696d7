use Rattle.std.proofs.Common.{◌≡◌, true, false, sym, ◌∙◌, rules, w64, SFits, to_z-of_z}
use Rattle.std.specs.Int.{w128}
use Rattle.vcp_base.specs.declared.ty.Ty.TheVariants as ty
use Rattle.vcp_base.specs.Types.{fits}
use Rattle.telegram.proofs.LinesFit.{next_fits}
use Rattle.telegram.proofs.script.lines.are_dints.Goals as goal

pub returns-then-not-fits : goal.returns-then-not-fits
returns-then-not-fits c =
    let short : SFits w64 c.at.result = search rules in
    let long : SFits w128 c.at.result = search rules in
    let is : fits ty.Dint c.at.result ≡ false =
    rw (to_z-of_z {w = w64} {z = c.at.result} short, to_z-of_z {w = w128} {z = c.at.result} long) at (sym c.fits.ensures.value ∙ c.if-not-fits.true) in
    sym (c.values.invariant ∙ next_fits c.args.values.now c.values.i c.at.result false c.at.ensures is)

pub values-preserved : goal.values-preserved
values-preserved c =
    let short : SFits w64 c.at.result = search rules in
    let long : SFits w128 c.at.result = search rules in
    let is : fits ty.Dint c.at.result ≡ true =
    rw (to_z-of_z {w = w64} {z = c.at.result} short, to_z-of_z {w = w128} {z = c.at.result} long) at (sym c.fits.ensures.value ∙ c.if-not-fits.false) in
    c.values.invariant ∙ next_fits c.args.values.now c.values.i c.at.result true c.at.ensures is
