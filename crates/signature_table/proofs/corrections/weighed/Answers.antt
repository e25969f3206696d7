use Rattle.std.proofs.Common.{arith, lit<, ◌^◌}
use mir.Syntax.{w128}
use Rattle.std.specs.Prelude.{◌*ℤ◌, FitsSigned}
use Rattle.std.proofs.lemmas.Int.{to_z-of_z, ints, fits_signed_mul}
use Rattle.coded_unit.specs.Words.{Small}
use Rattle.signature_table.proofs.Weighing.{small_product}
use Rattle.signature_table.proofs.corrections.weighed.Goals as goal

pub returns-clause-value : goal.returns-clause-value
returns-clause-value c =
    let fits : FitsSigned w128 (c.multiplier.result *ℤ c.args.signature) =
    fits_signed_mul w128 c.multiplier.result c.args.signature 20 (2 ^ 60) (omega (arith, ints)) (omega (arith, ints)) (lit< tt) in
    rw (← c.multiplier.ensures.value) grind (arith, to_z-of_z)

pub returns-clause-fits : goal.returns-clause-fits
returns-clause-fits c =
    let fits : FitsSigned w128 (c.multiplier.result *ℤ c.args.signature) =
    fits_signed_mul w128 c.multiplier.result c.args.signature 20 (2 ^ 60) (omega (arith, ints)) (omega (arith, ints)) (lit< tt) in
    let small : Small (c.multiplier.result *ℤ c.args.signature) =
    small_product c.multiplier.result c.args.signature (omega (arith, ints)) (omega (arith, ints)) in
    grind (arith, to_z-of_z)
