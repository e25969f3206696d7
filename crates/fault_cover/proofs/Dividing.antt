-- Dividing: Euclid's algorithm, and which residues have inverses.
use Rattle.std.proofs.Common.{◌≡◌, ◌≢◌, ⊎_elim, lit<, Bool, true, false, ◌==◌, ℕ, suc, ◌+◌, ◌-◌, ◌*◌, ◌/◌, ◌%◌, ◌<◌, ◌≤◌, ℤ, pos, negsuc, neg_ℤ, ◌+ℤ◌, ◌-ℤ◌}
use Rattle.std.proofs.Common.{◌*ℤ◌, ap, sym, subst, ◌∙◌, arith}
use Prim.Native.Nat.{◌∣◌}
use borrow.Author.Differences.{up, down}
use Rattle.std.specs.Int.{IsGcd}
use Rattle.std.proofs.Math.IntN.{*ℤ_comm, *ℤ-zero, pos-*ℤ-pos, pos-*ℤ-negsuc}
use Rattle.std.proofs.Math.Nat.{dvd-mul_right_of_dvd, dvd-sub_iff_left, eq-one_of_dvd-one}
use Rattle.std.proofs.lemmas.Int.{ints}
use Rattle.std.proofs.lemmas.Bool.Decides.{eqb_tells}
use Rattle.std.proofs.lemmas.Nat.{div-add-mod'}
use Rattle.std.proofs.lemmas.Nat.Gcd.{IsGcd-from_mod, IsGcd-from_zero}
use Rattle.vcp_base.specs.declared.code.Profile.{Profile}
use Rattle.vcp_base.specs.declared.code.Profile.TheVariants as profile
use Rattle.vcp_base.specs.Code.{modulus}
use Rattle.coded_unit.specs.Words.{modulo, value_part, coded}
use Rattle.coded_unit.specs.WordLaws.{WordLaws}
use Rattle.fault_cover.specs.Euclid.{ComesTo, IsBezout}
use Rattle.fault_cover.specs.Sources.{HasInverse, Refuses}

-- ---- products of integers

pub times_plus : (a x y : ℤ) → a *ℤ (x +ℤ y) ≡ a *ℤ x +ℤ a *ℤ y
times_plus a x y =
    let s : up (x +ℤ y) + down x + down y ≡ down (x +ℤ y) + up x + up y = omega (arith, ints) in
    let p : up a * (up (x +ℤ y) + down x + down y) ≡ up a * (down (x +ℤ y) + up x + up y) = ap (λ n. up a * n) s in
    let q : down a * (up (x +ℤ y) + down x + down y) ≡ down a * (down (x +ℤ y) + up x + up y) = ap (λ n. down a * n) s in
    omega (arith, ints)

pub times_minus : (a x y : ℤ) → a *ℤ (x -ℤ y) ≡ a *ℤ x -ℤ a *ℤ y
times_minus a x y =
    let h : a *ℤ ((x -ℤ y) +ℤ y) ≡ a *ℤ (x -ℤ y) +ℤ a *ℤ y = times_plus a (x -ℤ y) y in
    let e : a *ℤ ((x -ℤ y) +ℤ y) ≡ a *ℤ x = ap (λ z. a *ℤ z) (let back : (x -ℤ y) +ℤ y ≡ x = omega (arith, ints) in back) in
    omega (arith, ints)

pub times_scaled : (a b y : ℤ) → a *ℤ (b *ℤ y) ≡ b *ℤ (a *ℤ y)
times_scaled a b y =
    let s : up (b *ℤ y) + (up b * down y + down b * up y) ≡ down (b *ℤ y) + (up b * up y + down b * down y) = omega (arith, ints) in
    let p : up a * (up (b *ℤ y) + (up b * down y + down b * up y)) ≡ up a * (down (b *ℤ y) + (up b * up y + down b * down y)) = ap (λ n. up a * n) s in
    let q : down a * (up (b *ℤ y) + (up b * down y + down b * up y)) ≡ down a * (down (b *ℤ y) + (up b * up y + down b * down y)) = ap (λ n. down a * n) s in
    let t : up (a *ℤ y) + (up a * down y + down a * up y) ≡ down (a *ℤ y) + (up a * up y + down a * down y) = omega (arith, ints) in
    let u : up b * (up (a *ℤ y) + (up a * down y + down a * up y)) ≡ up b * (down (a *ℤ y) + (up a * up y + down a * down y)) = ap (λ n. up b * n) t in
    let v : down b * (up (a *ℤ y) + (up a * down y + down a * up y)) ≡ down b * (down (a *ℤ y) + (up a * up y + down a * down y)) = ap (λ n. down b * n) t in
    omega (arith, ints)

-- ---- divisors

left_over : (divisor m : ℕ) → divisor ∣ m → divisor ∣ m + 1 → divisor ∣ 1
left_over divisor m part whole =
    subst (λ n. divisor ∣ n) (let e : (m + 1) - m ≡ 1 = omega arith in e)
    ((dvd-sub_iff_left divisor (let le : m ≤ m + 1 = omega arith in le) part).1 whole)

-- ---- tests

pub above_one : (p : Profile) → 1 < modulus p
above_one profile.Narrow = lit< tt
above_one profile.Wide = lit< tt

is_one : (r : ℕ) → (r == 1) ≡ true → r ≡ 1
is_one r e = ⊎_elim
    (λ (h : ((r == 1) ≡ true) × (r ≡ 1)). h.1)
    (λ (h : ((r == 1) ≡ false) × (r ≢ 1)). absurd (let f = h.0 in cc))
    (eqb_tells r 1)

isnt_one : (r : ℕ) → (r == 1) ≡ false → r ≡ 1 → ⊥
isnt_one r e same = ⊎_elim
    (λ (h : ((r == 1) ≡ true) × (r ≡ 1)). absurd (let f = h.0 in cc))
    (λ (h : ((r == 1) ≡ false) × (r ≢ 1)). h.1 same)
    (eqb_tells r 1)

module _ (p : Profile) (laws : WordLaws p) where
  -- ---- residues

  -- integers of one residue differ by a multiple of the constant
  pub apart : (a b : ℤ) → modulo p a ≡ modulo p b → (k : ℤ) × (a ≡ b +ℤ pos (modulus p) *ℤ k)
  unfolding coded
  apart a b e =
      let first : a ≡ pos (modulus p) *ℤ value_part p a +ℤ pos (modulo p a) = laws.whole a in
      let second : b ≡ pos (modulus p) *ℤ value_part p b +ℤ pos (modulo p b) = laws.whole b in
      let same : pos (modulo p a) ≡ pos (modulo p b) = ap pos e in
      let less = times_minus (pos (modulus p)) (value_part p a) (value_part p b) in
      (value_part p a -ℤ value_part p b, omega (arith, ints))

  -- a factor may be taken for its residue
  pub times_residue : (a w : ℤ) → modulo p (a *ℤ pos (modulo p w)) ≡ modulo p (a *ℤ w)
  unfolding coded
  times_residue a w =
      let whole : w ≡ pos (modulus p) *ℤ value_part p w +ℤ pos (modulo p w) = laws.whole w in
      let h : a *ℤ w ≡ a *ℤ (pos (modulus p) *ℤ value_part p w +ℤ pos (modulo p w)) = ap (λ z. a *ℤ z) whole in
      let s = times_plus a (pos (modulus p) *ℤ value_part p w) (pos (modulo p w)) in
      let k = times_scaled a (pos (modulus p)) (value_part p w) in
      let e : a *ℤ w ≡ a *ℤ pos (modulo p w) +ℤ pos (modulus p) *ℤ (a *ℤ value_part p w) = omega (arith, ints) in
      sym (laws.multiple (a *ℤ w) (a *ℤ pos (modulo p w)) (a *ℤ value_part p w) e)

  -- a summand may be taken for its residue
  pub plus_residue : (x y : ℤ) → modulo p (pos (modulo p x) +ℤ y) ≡ modulo p (x +ℤ y)
  unfolding coded
  plus_residue x y =
      let whole : x ≡ pos (modulus p) *ℤ value_part p x +ℤ pos (modulo p x) = laws.whole x in
      let e : x +ℤ y ≡ (pos (modulo p x) +ℤ y) +ℤ pos (modulus p) *ℤ value_part p x = omega (arith, ints) in
      sym (laws.multiple (x +ℤ y) (pos (modulo p x) +ℤ y) (value_part p x) e)

  -- so may a factor of a summand
  pub plus_product : (x a y : ℤ) → modulo p (x +ℤ pos (modulo p a) *ℤ y) ≡ modulo p (x +ℤ a *ℤ y)
  unfolding coded
  plus_product x a y =
      let whole : a ≡ pos (modulus p) *ℤ value_part p a +ℤ pos (modulo p a) = laws.whole a in
      let h : y *ℤ a ≡ y *ℤ (pos (modulus p) *ℤ value_part p a +ℤ pos (modulo p a)) = ap (λ z. y *ℤ z) whole in
      let s = times_plus y (pos (modulus p) *ℤ value_part p a) (pos (modulo p a)) in
      let k = times_scaled y (pos (modulus p)) (value_part p a) in
      let turned = *ℤ_comm a y in
      let other = *ℤ_comm (pos (modulo p a)) y in
      let e : x +ℤ a *ℤ y ≡ (x +ℤ pos (modulo p a) *ℤ y) +ℤ pos (modulus p) *ℤ (y *ℤ value_part p a) = omega (arith, ints) in
      sym (laws.multiple (x +ℤ a *ℤ y) (x +ℤ pos (modulo p a) *ℤ y) (y *ℤ value_part p a) e)

  pub residue_first : (z y : ℤ) → modulo p (pos (modulo p z) *ℤ y) ≡ modulo p (z *ℤ y)
  residue_first z y =
      let none : pos 0 +ℤ pos (modulo p z) *ℤ y ≡ pos (modulo p z) *ℤ y = omega (arith, ints) in
      let none_there : pos 0 +ℤ z *ℤ y ≡ z *ℤ y = omega (arith, ints) in
      ap (modulo p) (sym none) ∙ plus_product (pos 0) z y ∙ ap (modulo p) none_there

  -- what comes to an output is refused as its residue is
  pub refuses_of : (any : Bool) (z : ℤ) → Refuses p any (pos (modulo p z)) → Refuses p any z
  refuses_of true z refuses = (refuses.0, sym (residue_first z refuses.0) ∙ refuses.1)
  refuses_of false z refuses = λ none. refuses (laws.small (modulo p z) (laws.below z) ∙ none)

  pub refuses_back : (any : Bool) (z : ℤ) → Refuses p any z → Refuses p any (pos (modulo p z))
  refuses_back true z refuses = (refuses.0, residue_first z refuses.0 ∙ refuses.1)
  refuses_back false z refuses = λ none. refuses (sym (laws.small (modulo p z) (laws.below z)) ∙ none)

  -- nothing is no multiple, and has no inverse
  pub nothing_refuses : (any : Bool) (z : ℤ) → 1 < modulus p → z ≡ pos 0 → Refuses p any z → ⊥
  nothing_refuses true z above none refuses =
      let zero : modulo p (z *ℤ refuses.0) ≡ 0 = ap (λ x. modulo p (x *ℤ refuses.0)) none ∙ ap (modulo p) (*ℤ_comm (pos 0) refuses.0 ∙ *ℤ-zero refuses.0)
      ∙ laws.small 0 (omega (arith, above)) in
      let one = refuses.1 in
      omega (arith, zero, one)
  nothing_refuses false z above none refuses = refuses (ap (modulo p) none ∙ laws.small 0 (omega (arith, above)))

  -- ---- one division

  pub divided_once : (z first second first_factor second_factor : ℕ) → ComesTo p z first first_factor → ComesTo p z second second_factor
      → ComesTo p z (first % second) (modulo p (pos first_factor -ℤ pos (first / second) *ℤ pos second_factor))
  divided_once z first second f s one other =
      let t = first / second in
      let w = pos f -ℤ pos t *ℤ pos s in
      let k = apart (pos z *ℤ pos f) (pos first) one in
      let m = apart (pos z *ℤ pos s) (pos second) other in
      let a = pos (modulus p) in
      let split : pos z *ℤ w ≡ pos z *ℤ pos f -ℤ pos z *ℤ (pos t *ℤ pos s) = times_minus (pos z) (pos f) (pos t *ℤ pos s) in
      let moved : pos z *ℤ (pos t *ℤ pos s) ≡ pos t *ℤ (pos z *ℤ pos s) = times_scaled (pos z) (pos t) (pos s) in
      let known : pos t *ℤ (pos z *ℤ pos s) ≡ pos t *ℤ (pos second +ℤ a *ℤ m.0) = ap (λ x. pos t *ℤ x) m.1 in
      let parts : pos t *ℤ (pos second +ℤ a *ℤ m.0) ≡ pos t *ℤ pos second +ℤ pos t *ℤ (a *ℤ m.0) = times_plus (pos t) (pos second) (a *ℤ m.0) in
      let scaled : pos t *ℤ (a *ℤ m.0) ≡ a *ℤ (pos t *ℤ m.0) = times_scaled (pos t) a m.0 in
      let natural : pos t *ℤ pos second ≡ pos (t * second) = pos-*ℤ-pos t second in
      let whole : t * second + first % second ≡ first = div-add-mod' first second in
      let back : a *ℤ (k.0 -ℤ pos t *ℤ m.0) ≡ a *ℤ k.0 -ℤ a *ℤ (pos t *ℤ m.0) = times_minus a k.0 (pos t *ℤ m.0) in
      let was : pos z *ℤ pos f ≡ pos first +ℤ a *ℤ k.0 = k.1 in
      let e : pos z *ℤ w ≡ pos (first % second) +ℤ a *ℤ (k.0 -ℤ pos t *ℤ m.0) = omega (arith, ints) in
      times_residue (pos z) w ∙ laws.multiple (pos z *ℤ w) (pos (first % second)) (k.0 -ℤ pos t *ℤ m.0) e

  -- the constant comes to nothing, and so does 0 times a number
  pub constant_comes : (z constant : ℕ) → constant ≡ modulus p → ComesTo p z constant 0
  constant_comes z constant is =
      let none : pos z *ℤ pos 0 ≡ pos 0 = *ℤ-zero (pos z) in
      let once : pos constant ≡ pos 0 +ℤ pos (modulus p) *ℤ pos 1 = omega (arith, ints, is) in
      ap (modulo p) none ∙ sym (laws.multiple (pos constant) (pos 0) (pos 1) once)

  pub divided_more : (z first second divisor factor : ℕ) → IsBezout p z second (first % second) divisor factor → IsBezout p z first second divisor factor
  divided_more z first second divisor factor more = record { gcd = IsGcd-from_mod first second divisor more.gcd; comes = more.comes }

  pub divided_all : (z first second factor : ℕ) → second ≡ 0 → ComesTo p z first factor → IsBezout p z first second first factor
  divided_all z first second factor none comes = record { gcd = IsGcd-from_zero first second none; comes = comes }

  -- ---- inverses

  -- the greatest common divisor of the constant and a number that has an inverse is 1
  pub one_divides : (z divisor : ℕ) → 1 < modulus p → IsGcd (modulus p) z divisor → HasInverse p (pos z) → divisor ≡ 1
  unfolding coded
  one_divides z divisor above gcd inverse =
      let r = modulo p inverse.0 in
      let is : modulo p (pos z *ℤ pos r) ≡ 1 = times_residue (pos z) inverse.0 ∙ inverse.1 in
      let natural : pos z *ℤ pos r ≡ pos (z * r) = pos-*ℤ-pos z r in
      let whole : pos (z * r) ≡ pos (modulus p) *ℤ value_part p (pos (z * r)) +ℤ pos (modulo p (pos (z * r))) = laws.whole (pos (z * r)) in
      let one : modulo p (pos (z * r)) ≡ 1 = ap (modulo p) (sym natural) ∙ is in
      by_sign (value_part p (pos (z * r))) (whole ∙ ap (λ n. pos (modulus p) *ℤ value_part p (pos (z * r)) +ℤ pos n) one)
    where
      by_sign : (v : ℤ) → pos (z * modulo p inverse.0) ≡ pos (modulus p) *ℤ v +ℤ pos 1 → divisor ≡ 1
      by_sign (pos w) e =
          let product : pos (modulus p) *ℤ pos w ≡ pos (modulus p * w) = pos-*ℤ-pos (modulus p) w in
          let sum : z * modulo p inverse.0 ≡ modulus p * w + 1 = omega (arith, ints) in
          let whole : divisor ∣ modulus p * w + 1 = subst (λ n. divisor ∣ n) sum (dvd-mul_right_of_dvd divisor gcd.1 (modulo p inverse.0)) in
          let part : divisor ∣ modulus p * w = dvd-mul_right_of_dvd divisor gcd.0 w in
          eq-one_of_dvd-one (left_over divisor (modulus p * w) part whole)
      by_sign (negsuc w) e =
          let product : pos (modulus p) *ℤ negsuc w ≡ neg_ℤ (pos (modulus p * suc w)) = pos-*ℤ-negsuc (modulus p) w in
          let more : modulus p * suc w ≡ modulus p * w + modulus p = omega arith in
          absurd (omega (arith, ints))

  -- a factor was found and tried
  pub inverse_found : (z factor r : ℕ) (m : ℤ) → r ≡ modulo p m → m ≡ pos z *ℤ pos factor → (r == 1) ≡ true → HasInverse p (pos z)
  inverse_found z factor r m is product tried = (pos factor, ap (modulo p) (sym product) ∙ sym is ∙ is_one r tried)

  pub inverse_none : (z factor divisor r : ℕ) (m : ℤ) → IsBezout p z (modulus p) z divisor factor → r ≡ modulo p m → m ≡ pos z *ℤ pos factor
      → (r == 1) ≡ false → HasInverse p (pos z) → ⊥
  inverse_none z factor divisor r m bezout is product tried inverse =
      let one : divisor ≡ 1 = one_divides z divisor (above_one p) bezout.gcd inverse in
      let e : r ≡ 1 = is ∙ ap (modulo p) product ∙ bezout.comes ∙ ap (λ n. modulo p (pos n)) one ∙ laws.small 1 (above_one p) in
      isnt_one r tried e
