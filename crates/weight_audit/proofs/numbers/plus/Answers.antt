use Rattle.std.proofs.Common.{◌≡◌, ℕ, ◌<◌, ◌≤◌, ◌^◌, ◌*◌, ℤ, pos, negsuc, ◌+ℤ◌, ◌*ℤ◌, ◌≤ℤ◌, to_z, of_z, ap, sym, subst, ◌∙◌, lit<, arith}
use mir.Syntax.{w32, w128}
use Rattle.std.specs.Prelude.{FitsSigned, unsigned_abs}
use Rattle.std.proofs.Math.Nat.{mul-le-mul_right}
use Rattle.std.proofs.lemmas.Int.{ints, to_z-of_z, to_z_pos, fits_signed_mul, unsigned_abs-mul}
use Rattle.weight_audit.proofs.numbers.plus.Goals as goal

abbrev IsFactor : ℤ → Type 0
IsFactor f = (negsuc 1 ≤ℤ f) × (f ≤ℤ pos 20)

-- what is cast to 128 bits
factor_is : (f : ℤ) → IsFactor f → to_z w128 (of_z w128 (to_z w32 (of_z w32 f))) ≡ f
factor_is f is =
    let low : negsuc 1 ≤ℤ f = is.0 in
    let high : f ≤ℤ pos 20 = is.1 in
    let narrow : FitsSigned w32 f = omega (arith, ints) in
    let wide : FitsSigned w128 f = omega (arith, ints) in
    ap (λ (z : ℤ). to_z w128 (of_z w128 z)) (to_z-of_z w32 f narrow) ∙ to_z-of_z w128 f wide

number_is : (n : ℕ) → n < 2 ^ 64 → to_z w128 n ≡ pos n
number_is n few = to_z_pos w128 n (omega (arith, few))

-- and the product and the sum fit
small : (f : ℤ) → IsFactor f → unsigned_abs f ≤ 20
small f is =
    let low : negsuc 1 ≤ℤ f = is.0 in
    let high : f ≤ℤ pos 20 = is.1 in
    omega (arith, ints)

product_fits : (f : ℤ) (b : ℕ) → IsFactor f → b < 2 ^ 64 → FitsSigned w128 (f *ℤ pos b)
product_fits f b is few = fits_signed_mul w128 f (pos b) 20 (2 ^ 64) (small f is) (omega (arith, few)) (lit< tt)

by_size : (n : ℕ) (z : ℤ) → n < 2 ^ 64 → unsigned_abs z ≤ 2 ^ 70 → FitsSigned w128 (pos n +ℤ z)
by_size n z few le = omega (arith, ints)

sum_fits : (n : ℕ) (f : ℤ) (b : ℕ) → n < 2 ^ 64 → IsFactor f → b < 2 ^ 64 → FitsSigned w128 (pos n +ℤ f *ℤ pos b)
sum_fits n f b few is less =
    let size : unsigned_abs (f *ℤ pos b) ≡ unsigned_abs f * b = unsigned_abs-mul f (pos b) in
    let most : unsigned_abs f * b ≤ 20 * b = mul-le-mul_right b (small f is) in
    by_size n (f *ℤ pos b) few (omega (arith, size, most, less))

product_is : (x y f : ℤ) (b : ℕ) → x ≡ f → y ≡ pos b → IsFactor f → b < 2 ^ 64 → to_z w128 (of_z w128 (x *ℤ y)) ≡ f *ℤ pos b
product_is x y f b of_x of_y is few =
    ap (λ (z : ℤ). to_z w128 (of_z w128 (z *ℤ y))) of_x
    ∙ (ap (λ (z : ℤ). to_z w128 (of_z w128 (f *ℤ z))) of_y ∙ to_z-of_z w128 (f *ℤ pos b) (product_fits f b is few))

sum_is : (x y f : ℤ) (n b : ℕ) → x ≡ pos n → y ≡ f *ℤ pos b → n < 2 ^ 64 → IsFactor f → b < 2 ^ 64
    → to_z w128 (of_z w128 (x +ℤ y)) ≡ pos n +ℤ f *ℤ pos b
sum_is x y f n b of_x of_y few is less =
    ap (λ (z : ℤ). to_z w128 (of_z w128 (z +ℤ y))) of_x
    ∙ (ap (λ (z : ℤ). to_z w128 (of_z w128 (pos n +ℤ z))) of_y ∙ to_z-of_z w128 (pos n +ℤ f *ℤ pos b) (sum_fits n f b few is less))

product_fits_as : (x y f : ℤ) (b : ℕ) → x ≡ f → y ≡ pos b → IsFactor f → b < 2 ^ 64 → FitsSigned w128 (x *ℤ y)
product_fits_as x y f b of_x of_y is few =
    subst (λ (z : ℤ). FitsSigned w128 (z *ℤ y)) (sym of_x) (subst (λ (z : ℤ). FitsSigned w128 (f *ℤ z)) (sym of_y) (product_fits f b is few))

sum_fits_as : (x y f : ℤ) (n b : ℕ) → x ≡ pos n → y ≡ f *ℤ pos b → n < 2 ^ 64 → IsFactor f → b < 2 ^ 64 → FitsSigned w128 (x +ℤ y)
sum_fits_as x y f n b of_x of_y few is less =
    subst (λ (z : ℤ). FitsSigned w128 (z +ℤ y)) (sym of_x)
    (subst (λ (z : ℤ). FitsSigned w128 (pos n +ℤ z)) (sym of_y) (sum_fits n f b few is less))

pub overflow_mul-result : goal.overflow_mul-result
overflow_mul-result c =
    let f = c.args.factor in
    let b = c.args.by in
    let is : IsFactor f = (c.requires.low, c.requires.high) in
    let few : b < 2 ^ 64 = c.ranges.by.fits in
    product_fits_as (to_z w128 (of_z w128 (to_z w32 (of_z w32 f)))) (to_z w128 b) f b (factor_is f is) (number_is b few) is few

pub overflow_add-result : goal.overflow_add-result
overflow_add-result c =
    let n = c.args.number in
    let f = c.args.factor in
    let b = c.args.by in
    let is : IsFactor f = (c.requires.low, c.requires.high) in
    let few : b < 2 ^ 64 = c.ranges.by.fits in
    let times : ℤ = to_z w128 (of_z w128 (to_z w128 (of_z w128 (to_z w32 (of_z w32 f))) *ℤ to_z w128 b)) in
    sum_fits_as (to_z w128 n) times f n b (number_is n c.ranges.number.fits)
    (product_is (to_z w128 (of_z w128 (to_z w32 (of_z w32 f)))) (to_z w128 b) f b (factor_is f is) (number_is b few) is few) c.ranges.number.fits is few

pub returns : goal.returns
returns c =
    let n = c.args.number in
    let f = c.args.factor in
    let b = c.args.by in
    let is : IsFactor f = (c.requires.low, c.requires.high) in
    let few : b < 2 ^ 64 = c.ranges.by.fits in
    let times : ℤ = to_z w128 (of_z w128 (to_z w128 (of_z w128 (to_z w32 (of_z w32 f))) *ℤ to_z w128 b)) in
    sum_is (to_z w128 n) times f n b (number_is n c.ranges.number.fits)
    (product_is (to_z w128 (of_z w128 (to_z w32 (of_z w32 f)))) (to_z w128 b) f b (factor_is f is) (number_is b few) is few) c.ranges.number.fits is few
