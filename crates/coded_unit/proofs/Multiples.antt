-- Multiples: values times the constant of a code, and what the kinds give of them.
use Rattle.std.proofs.Common.{refl, Ok, Err, ℕ, suc, zero, ◌≡◌, ◌<◌, ◌^◌, ◌*◌, ◌/◌, Bool, true, false, cond, not, ◌&&◌, ℤ, pos, negsuc, neg_ℤ, ◌+ℤ◌, ◌-ℤ◌, ◌*ℤ◌, ◌≤ℤ◌, ◌<ℤ◌, T, ap, sym, subst, ◌∙◌, arith, to_z, of_z, SFits, w64}
use mir.Syntax.{w128}
use Rattle.std.specs.Prelude.{int_le, int_lt, int_div, int_rem, FitsSigned}
use Rattle.std.proofs.Math.Nat.{div-div-eq-div-mul, mul-div_cancel_left, div-zero, zero-div, mul_assoc}
use Rattle.std.proofs.Math.IntN.{*ℤ_comm}
use Rattle.std.specs.Int.Signed.{lt_z_no}
use Rattle.std.proofs.lemmas.Int.{ints, quot-rem, to_z-of_z, by_lt_z}
use Rattle.vcp_base.specs.declared.code.Profile.{Profile}
use Rattle.vcp_base.specs.declared.code.Profile.TheVariants as profile
use Rattle.vcp_base.specs.Code.{modulus}
use Rattle.vcp_base.specs.declared.kind.Kind.{Kind}
use Rattle.vcp_base.specs.declared.kind.StopKind.TheVariants as stop
use Rattle.vcp_base.specs.declared.ty.Ty.{Ty}
use Rattle.vcp_base.specs.Types.{fits}
use Rattle.vcp_base.specs.Kinds.{same, value, operands_fit, divides_by_zero, outcome}
use Rattle.coded_unit.specs.Words.{modulo, value_part, coded}
use Rattle.coded_unit.specs.Multiples.{multiple, IsMultiple, Wide}
use Rattle.coded_unit.proofs.Modular.{modulus_positive, whole}
use Rattle.coded_unit.proofs.Sizes.{at_most}

-- a value of 64 bits times the constant is far from the ends of 128
pub is_wide : (p : Profile) (v : ℤ) → negsuc (2 ^ 63) ≤ℤ v → v ≤ℤ pos (2 ^ 63) → Wide (multiple p v)
unfolding multiple
is_wide profile.Narrow v low high = (omega (arith, ints), omega (arith, ints))
is_wide profile.Wide v low high = (omega (arith, ints), omega (arith, ints))

-- what is written in 128 bits is read back
pub kept : (z : ℤ) → Wide z → to_z w128 (of_z w128 z) ≡ z
kept z wide = grind (arith, to_z-of_z)

-- a number that is the multiple of a value of 64 bits, as it is read back
pub read_back : (p : Profile) (z v : ℤ) → z ≡ multiple p v → negsuc (2 ^ 63) ≤ℤ v → v ≤ℤ pos (2 ^ 63) → IsMultiple p (to_z w128 (of_z w128 z)) v
read_back p z v e low high =
    let wide : Wide z = subst Wide (sym e) (is_wide p v low high) in
    (kept z wide ∙ e, subst Wide (sym (kept z wide)) wide)

-- the multiple of an operand, as it is read back
pub of_operand : (p : Profile) (m v : ℤ) → IsMultiple p m v → to_z w128 (of_z w128 m) ≡ multiple p v
of_operand p m v h = kept m h.1 ∙ h.0

-- it is far from the ends, as it is read back
pub operand_wide : (p : Profile) (m v : ℤ) → IsMultiple p m v → Wide (to_z w128 (of_z w128 m))
operand_wide p m v h = subst Wide (sym (kept m h.1)) h.1

pub nothing_wide : (z : ℤ) → z ≡ pos 0 → Wide (to_z w128 (of_z w128 z))
nothing_wide z e = subst (λ x. Wide (to_z w128 (of_z w128 x))) (sym e) (omega (arith, ints), omega (arith, ints))

-- a number between the ends of 64 bits has 128
pub number_fits : (z : ℤ) → negsuc (2 ^ 63) ≤ℤ z → z ≤ℤ pos (2 ^ 63) → SFits w128 z
number_fits z low high = omega (arith, ints)

-- a word less its residue is that of its value
pub less_residue : (p : Profile) (w v : ℤ) (r : ℕ) → v ≡ value_part p w → r ≡ modulo p w → w -ℤ pos r ≡ multiple p v
unfolding multiple coded
less_residue profile.Narrow w v r e f =
    let is : w ≡ coded profile.Narrow v r = whole profile.Narrow w ∙ ap (λ z. coded profile.Narrow z (modulo profile.Narrow w)) (sym e) ∙ ap (coded profile.Narrow v) (sym f) in
    omega (arith, ints)
less_residue profile.Wide w v r e f =
    let is : w ≡ coded profile.Wide v r = whole profile.Wide w ∙ ap (λ z. coded profile.Wide z (modulo profile.Wide w)) (sym e) ∙ ap (coded profile.Wide v) (sym f) in
    omega (arith, ints)

-- a value of 64 bits lies between their ends
pub ends : (v : ℤ) → FitsSigned w64 v → (negsuc (2 ^ 63) ≤ℤ v) × (v ≤ℤ pos (2 ^ 63))
ends v h = (grind arith, grind arith)

pub opposite : (p : Profile) (x m : ℤ) → m ≡ multiple p x → pos 0 -ℤ m ≡ multiple p (neg_ℤ x)
unfolding multiple
opposite profile.Narrow x m e = omega (arith, ints)
opposite profile.Wide x m e = omega (arith, ints)

pub sum : (p : Profile) (x y m n : ℤ) → m ≡ multiple p x → n ≡ multiple p y → m +ℤ n ≡ multiple p (x +ℤ y)
unfolding multiple
sum profile.Narrow x y m n e f = omega (arith, ints)
sum profile.Wide x y m n e f = omega (arith, ints)

pub difference : (p : Profile) (x y m n : ℤ) → m ≡ multiple p x → n ≡ multiple p y → m -ℤ n ≡ multiple p (x -ℤ y)
unfolding multiple
difference profile.Narrow x y m n e f = omega (arith, ints)
difference profile.Wide x y m n e f = omega (arith, ints)

pub of_zero : (p : Profile) → multiple p (pos 0) ≡ pos 0
unfolding multiple
of_zero profile.Narrow = refl
of_zero profile.Wide = refl

pub and_nothing : (z : ℤ) → z +ℤ pos 0 ≡ z
and_nothing z = omega (arith, ints)

-- ---- the product

scaled_opposite : (k n : ℕ) → pos k *ℤ neg_ℤ (pos n) ≡ neg_ℤ (pos (k * n))
scaled_opposite k zero = ap pos nothing ∙ sym (ap (λ z. neg_ℤ (pos z)) nothing) where
  nothing : k * zero ≡ zero
  nothing = omega arith
scaled_opposite k (suc n) = refl

opposite_times : (n b : ℕ) → neg_ℤ (pos n) *ℤ pos b ≡ neg_ℤ (pos (n * b))
opposite_times zero b = ap pos nothing ∙ sym (ap (λ z. neg_ℤ (pos z)) nothing) where
  nothing : zero * b ≡ zero
  nothing = omega arith
opposite_times (suc n) b = refl

opposites_times : (n b : ℕ) → neg_ℤ (pos n) *ℤ negsuc b ≡ pos (n * suc b)
opposites_times zero b = ap (λ z. neg_ℤ (pos z)) nothing ∙ sym (ap pos nothing) where
  nothing : zero * suc b ≡ zero
  nothing = omega arith
opposites_times (suc n) b = refl

scaled_product : (k : ℕ) (x y : ℤ) → pos k *ℤ x *ℤ y ≡ pos k *ℤ (x *ℤ y)
scaled_product k (pos a) (pos b) = ap pos (mul_assoc k a b)
scaled_product k (pos a) (negsuc b) = ap (λ z. neg_ℤ (pos z)) (mul_assoc k a (suc b)) ∙ sym (scaled_opposite k (a * suc b))
scaled_product k (negsuc a) (pos b) =
    opposite_times (k * suc a) b ∙ ap (λ z. neg_ℤ (pos z)) (mul_assoc k (suc a) b) ∙ sym (scaled_opposite k (suc a * b))
scaled_product k (negsuc a) (negsuc b) = opposites_times (k * suc a) b ∙ ap pos (mul_assoc k (suc a) (suc b))

pub product : (p : Profile) (x y m : ℤ) → m ≡ multiple p x → m *ℤ y ≡ multiple p (x *ℤ y)
unfolding multiple
product p x y m e = ap (λ z. z *ℤ y) e ∙ scaled_product (modulus p) x y

-- ---- the quotient, and the rest

cancelled : (k a b : ℕ) → 0 < k → k * a / (k * b) ≡ a / b
cancelled k a b h = sym (div-div-eq-div-mul (k * a) k b) ∙ ap (λ z. z / b) (mul-div_cancel_left a h)

opposite_quotient : (n b : ℕ) → int_div (neg_ℤ (pos n)) (pos b) ≡ neg_ℤ (pos (n / b))
opposite_quotient zero b = ap pos (zero-div b) ∙ sym (ap (λ z. neg_ℤ (pos z)) (zero-div b))
opposite_quotient (suc n) b = refl

quotient_opposite : (a n : ℕ) → int_div (pos a) (neg_ℤ (pos n)) ≡ neg_ℤ (pos (a / n))
quotient_opposite a zero = ap pos (div-zero a) ∙ sym (ap (λ z. neg_ℤ (pos z)) (div-zero a))
quotient_opposite a (suc n) = refl

opposite_quotients : (n m : ℕ) → int_div (neg_ℤ (pos n)) (neg_ℤ (pos m)) ≡ pos (n / m)
opposite_quotients zero zero = refl
opposite_quotients zero (suc m) = ap (λ z. neg_ℤ (pos z)) (zero-div (suc m)) ∙ sym (ap pos (zero-div (suc m)))
opposite_quotients (suc n) zero = ap (λ z. neg_ℤ (pos z)) (div-zero (suc n)) ∙ sym (ap pos (div-zero (suc n)))
opposite_quotients (suc n) (suc m) = refl

scaled_quotient : (k : ℕ) (x y : ℤ) → 0 < k → int_div (pos k *ℤ x) (pos k *ℤ y) ≡ int_div x y
scaled_quotient k (pos a) (pos b) h = ap pos (cancelled k a b h)
scaled_quotient k (pos a) (negsuc b) h = quotient_opposite (k * a) (k * suc b) ∙ ap (λ z. neg_ℤ (pos z)) (cancelled k a (suc b) h)
scaled_quotient k (negsuc a) (pos b) h = opposite_quotient (k * suc a) (k * b) ∙ ap (λ z. neg_ℤ (pos z)) (cancelled k (suc a) b h)
scaled_quotient k (negsuc a) (negsuc b) h = opposite_quotients (k * suc a) (k * suc b) ∙ ap pos (cancelled k (suc a) (suc b) h)

pub quotient : (p : Profile) (x y m n : ℤ) → m ≡ multiple p x → n ≡ multiple p y → int_div m n ≡ int_div x y
unfolding multiple
quotient p x y m n e f = ap (λ z. int_div z n) e ∙ ap (int_div (pos (modulus p) *ℤ x)) f ∙ scaled_quotient (modulus p) x y (modulus_positive p)

-- what is left of a number where a multiple of another is taken off
left : (q d r a : ℤ) → q *ℤ d +ℤ r ≡ a → r ≡ a -ℤ q *ℤ d
left q d r a e = omega (arith, ints)

-- a number times a multiple
turned : (p : Profile) (q y n : ℤ) → n ≡ multiple p y → multiple p (q *ℤ y) ≡ q *ℤ n
turned p q y n f = ap (multiple p) (*ℤ_comm q y) ∙ sym (product p y q n f) ∙ *ℤ_comm n q

pub rest : (p : Profile) (x y m n : ℤ) → m ≡ multiple p x → n ≡ multiple p y → int_rem m n ≡ multiple p (int_rem x y)
rest p x y m n e f =
    let q = int_div x y in
    let whole : multiple p (q *ℤ y) ≡ q *ℤ n = turned p q y n f in
    left (int_div m n) n (int_rem m n) m (quot-rem m n)
    ∙ ap (λ z. m -ℤ z *ℤ n) (quotient p x y m n e f)
    ∙ ap (λ z. m -ℤ z) (sym whole)
    ∙ difference p x (q *ℤ y) m (multiple p (q *ℤ y)) e refl
    ∙ ap (multiple p) (sym (left q y (int_rem x y) x (quot-rem x y)))

-- ---- comparisons

agree : (a b : Bool) → (a ≡ true → b ≡ true) → (b ≡ true → a ≡ true) → a ≡ b
agree true true there back = refl
agree true false there back = sym (there refl)
agree false true there back = back refl
agree false false there back = refl

holds : (b : Bool) → b ≡ true → T b
holds true h = tt
holds false h = absurd cc

is_true : (b : Bool) → T b → b ≡ true
is_true true t = refl
is_true false t = absurd t

is_at_most : (x y : ℤ) → x ≤ℤ y → int_le x y ≡ true
is_at_most x y h = is_true (int_le x y) h.le

shrunk : (p : Profile) (x y : ℤ) → multiple p x ≤ℤ multiple p y → x ≤ℤ y
unfolding multiple
shrunk profile.Narrow x y h = omega (arith, ints)
shrunk profile.Wide x y h = omega (arith, ints)

grown : (p : Profile) (x y : ℤ) → x ≤ℤ y → multiple p x ≤ℤ multiple p y
unfolding multiple
grown profile.Narrow x y h = omega (arith, ints)
grown profile.Wide x y h = omega (arith, ints)

same_order : (p : Profile) (x y : ℤ) → int_le (multiple p x) (multiple p y) ≡ int_le x y
same_order p x y =
    agree _ _
    (λ h. is_at_most x y (shrunk p x y (at_most (multiple p x) (multiple p y) h)))
    (λ h. is_at_most (multiple p x) (multiple p y) (grown p x y (at_most x y h)))

same_multiples : (p : Profile) (x y : ℤ) → same (multiple p x) (multiple p y) ≡ same x y
same_multiples p x y =
    ap (λ b. b && int_le (multiple p y) (multiple p x)) (same_order p x y) ∙ ap (λ b. int_le x y && b) (same_order p y x)

pub equal : (p : Profile) (x y m n : ℤ) → m ≡ multiple p x → n ≡ multiple p y → same m n ≡ same x y
equal p x y m n e f = ap (λ z. same z n) e ∙ ap (same (multiple p x)) f ∙ same_multiples p x y

pub is_below : (x y : ℤ) → int_lt x y ≡ true → x <ℤ y
is_below x y h = record { lt = holds (int_lt x y) h }

-- a test that failed
fails : (b : Bool) → b ≡ false → T (not b)
fails true h = absurd cc
fails false h = tt

pub not_below : (x y : ℤ) → int_lt x y ≡ false → y ≤ℤ x
not_below x y h = lt_z_no (fails (int_lt x y) h)

pub at_least : (x y : ℤ) → int_le x y ≡ true → x ≤ℤ y
at_least x y h = at_most x y h

pub not_at_least : (x y : ℤ) → int_le x y ≡ false → y <ℤ x
not_at_least x y h = by_lt_z y x (λ k. k) (λ k. let e : false ≡ true = sym h ∙ is_at_most x y k in absurd cc)

is_less : (x y : ℤ) → x <ℤ y → int_lt x y ≡ true
is_less x y h = is_true (int_lt x y) h.lt

shrunk_below : (p : Profile) (x y : ℤ) → multiple p x <ℤ multiple p y → x <ℤ y
unfolding multiple
shrunk_below profile.Narrow x y h = omega (arith, ints)
shrunk_below profile.Wide x y h = omega (arith, ints)

grown_below : (p : Profile) (x y : ℤ) → x <ℤ y → multiple p x <ℤ multiple p y
unfolding multiple
grown_below profile.Narrow x y h = omega (arith, ints)
grown_below profile.Wide x y h = omega (arith, ints)

less_multiples : (p : Profile) (x y : ℤ) → int_lt (multiple p x) (multiple p y) ≡ int_lt x y
less_multiples p x y =
    agree _ _
    (λ h. is_less x y (shrunk_below p x y (is_below (multiple p x) (multiple p y) h)))
    (λ h. is_less (multiple p x) (multiple p y) (grown_below p x y (is_below x y h)))

pub less : (p : Profile) (x y m n : ℤ) → m ≡ multiple p x → n ≡ multiple p y → int_lt m n ≡ int_lt x y
less p x y m n e f = ap (λ z. int_lt z n) e ∙ ap (int_lt (multiple p x)) f ∙ less_multiples p x y

-- ---- what a kind gives

given : (fit none inside : Bool) (w v : ℤ)
    → cond fit (cond none (Err stop.DivZero) (cond inside (Ok w) (Err stop.Range))) (Err stop.Operand) ≡ Ok v → (none ≡ false) × (w ≡ v)
given false none inside w v h = absurd cc
given true true inside w v h = absurd cc
given true false false w v h = absurd cc
given true false true w v h = (refl, cc)

-- where it gives a value, that is the kind's, and no divisor is 0
pub gives : (k : Kind) (from to : Ty) (imm a b c v : ℤ) → outcome k from to imm a b c ≡ Ok v → (divides_by_zero k b ≡ false) × (value k imm a b c ≡ v)
gives k from to imm a b c v h =
    given (operands_fit k from a b c) (divides_by_zero k b) (fits to (value k imm a b c)) (value k imm a b c) v h
