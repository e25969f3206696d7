use Rattle.std.proofs.Common.{◌≡◌, ◌+ℤ◌, ◌∙◌, ap₂, of_z, rules, subst, sym, to_z}
use mir.Syntax.{w128}
use Rattle.std.proofs.Math.Facts.{to_z-of_z}
use Rattle.coded_unit.specs.Words.{Small}
use Rattle.fault_script.specs.Differences.{exchanged}
use Rattle.fault_cover.proofs.starts.operated.Goals as goal

pub returns : goal.returns
returns c =
    let part = exchanged c.args.table.now c.args.graph.now c.args.op.now c.args.other in
    let first : to_z w128 (of_z w128 c.weighed_as-first.result) ≡ part 0 =
    to_z-of_z {w = w128} {z = c.weighed_as-first.result} (search rules) ∙ c.weighed_as-first.ensures.value in
    let second : to_z w128 (of_z w128 c.weighed_as-second.result) ≡ part 1 =
    to_z-of_z {w = w128} {z = c.weighed_as-second.result} (search rules) ∙ c.weighed_as-second.ensures.value in
    let third : to_z w128 (of_z w128 c.weighed_as-third.result) ≡ part 2 =
    to_z-of_z {w = w128} {z = c.weighed_as-third.result} (search rules) ∙ c.weighed_as-third.ensures.value in
    to_z-of_z {w = w128} {z = c.sum.result} (search rules) ∙ c.sum.ensures
    ∙ ap₂ (λ x y. x +ℤ y) (ap₂ (λ x y. x +ℤ y) first second) third

pub sum-requires-clause-first : goal.sum-requires-clause-first
sum-requires-clause-first c = subst Small (sym (to_z-of_z {w = w128} {z = c.weighed_as-first.result} (search rules))) c.weighed_as-first.ensures.fits

pub sum-requires-clause-second : goal.sum-requires-clause-second
sum-requires-clause-second c = subst Small (sym (to_z-of_z {w = w128} {z = c.weighed_as-second.result} (search rules))) c.weighed_as-second.ensures.fits

pub sum-requires-clause-third : goal.sum-requires-clause-third
sum-requires-clause-third c = subst Small (sym (to_z-of_z {w = w128} {z = c.weighed_as-third.result} (search rules))) c.weighed_as-third.ensures.fits
