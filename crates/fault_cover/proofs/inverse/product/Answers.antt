use Rattle.std.proofs.Common.{◌≡◌, ◌≤◌, ◌*◌, ◌^◌, pos, ◌*ℤ◌, ◌∙◌, ap₂, arith, lit<, subst, sym, to_z}
use mir.Syntax.{w128}
use Rattle.std.specs.Prelude.{FitsSigned, ◌≤ℤ◌}
use Rattle.std.proofs.Math.Facts.{to_z-of_z, to_z_pos}
use Rattle.std.proofs.lemmas.Int.{fits_signed_mul, ints}
use Rattle.std.proofs.lemmas.Nat.{mul-le}
use Rattle.fault_cover.proofs.inverse.product.Goals as goal

is_first : (c : goal.Start) → to_z w128 c.args.a ≡ pos c.args.a
is_first c = to_z_pos w128 (omega (arith, c.requires.first))

is_second : (c : goal.Start) → to_z w128 c.args.b ≡ pos c.args.b
is_second c = to_z_pos w128 (omega (arith, c.requires.second))

pub overflow_mul-result : goal.overflow_mul-result
overflow_mul-result c =
    let fits : FitsSigned w128 (pos c.args.a *ℤ pos c.args.b) =
    fits_signed_mul w128 (pos c.args.a) (pos c.args.b) (2 ^ 61) (2 ^ 61) (omega (arith, c.requires.first)) (omega (arith, c.requires.second)) (lit< tt) in
    subst (FitsSigned w128) (sym (ap₂ (λ x y. x *ℤ y) (is_first c) (is_second c))) fits

pub returns-clause-value : goal.returns-clause-value
returns-clause-value c =
    to_z-of_z {w = w128} {z = to_z w128 c.args.a *ℤ to_z w128 c.args.b} (overflow_mul-result c) ∙ ap₂ (λ x y. x *ℤ y) (is_first c) (is_second c)

pub returns-clause-low : goal.returns-clause-low
returns-clause-low c = subst (λ z. pos 0 ≤ℤ z) (sym (returns-clause-value c)) (omega (arith, ints))

pub returns-clause-high : goal.returns-clause-high
returns-clause-high c =
    let le : c.args.a * c.args.b ≤ 2 ^ 61 * 2 ^ 61 =
    mul-le c.args.a c.args.b (2 ^ 61) (2 ^ 61) (omega (arith, c.requires.first)) (omega (arith, c.requires.second)) in
    subst (λ z. z ≤ℤ pos (2 ^ 122)) (sym (returns-clause-value c)) (omega (arith, ints, le))
