use Rattle.std.proofs.Common.{◌≡◌, ◌-ℤ◌, ◌*ℤ◌, ◌∙◌, ap₂, of_z, rules, subst, sym, to_z, w64}
use mir.Syntax.{w32, w128}
use Rattle.std.proofs.Math.Facts.{to_z-of_z}
use Rattle.vcp_base.specs.Kinds.{multiplier}
use Rattle.coded_unit.specs.Words.{Small}
use Rattle.fault_script.specs.Differences.{origin}
use Rattle.fault_cover.proofs.starts.weighed_as.Goals as goal

pub returns-clause-value : goal.returns-clause-value
returns-clause-value c =
    let j = c.args.j in
    let factor : to_z w32 (of_z w32 c.factor.result) ≡ multiplier c.args.other j -ℤ multiplier c.args.op.now.kind j =
    to_z-of_z {w = w32} {z = c.factor.result} (search rules) ∙ c.factor.ensures.value in
    let wanted : to_z w64 (of_z w64 c.origin-wanted.result) ≡ origin c.args.table.now c.args.graph.now c.args.op.now j =
    to_z-of_z {w = w64} {z = c.origin-wanted.result} (search rules) ∙ c.origin-wanted.ensures.value in
    to_z-of_z {w = w128} {z = c.weighed.result} (search rules) ∙ c.weighed.ensures.value ∙ ap₂ (λ x y. x *ℤ y) factor wanted

pub returns-clause-fits : goal.returns-clause-fits
returns-clause-fits c = subst Small (sym (to_z-of_z {w = w128} {z = c.weighed.result} (search rules))) c.weighed.ensures.fits
