use Rattle.std.proofs.Common.{arith, lit<, ◌^◌, ◌≤◌}
use mir.Syntax.{w128}
use Rattle.std.specs.Prelude.{◌*ℤ◌, FitsSigned, unsigned_abs}
use Rattle.std.proofs.lemmas.Int.{to_z-of_z, ints, fits_signed_mul}
use Rattle.coded_unit.specs.Words.{Small}
use Rattle.fault_cover.proofs.Weighing.{small_product}
use Rattle.fault_cover.proofs.starts.weighed.Goals as goal

pub returns-clause-fits : goal.returns-clause-fits
returns-clause-fits c =
    let wide : unsigned_abs c.args.number ≤ 2 ^ 63 = omega (arith, ints, c.ranges.number) in
    let fits : FitsSigned w128 (c.args.factor *ℤ c.args.number) =
    fits_signed_mul w128 c.args.factor c.args.number 22 (2 ^ 63) (omega (arith, ints)) wide (lit< tt) in
    let small : Small (c.args.factor *ℤ c.args.number) = small_product c.args.factor c.args.number (omega (arith, ints)) wide in
    grind (arith, to_z-of_z)

pub returns-clause-value : goal.returns-clause-value
returns-clause-value c =
    let wide : unsigned_abs c.args.number ≤ 2 ^ 63 = omega (arith, ints, c.ranges.number) in
    let fits : FitsSigned w128 (c.args.factor *ℤ c.args.number) =
    fits_signed_mul w128 c.args.factor c.args.number 22 (2 ^ 63) (omega (arith, ints)) wide (lit< tt) in
    grind (arith, to_z-of_z)
