-- Parts: the value part and the residue of an integer, as they are computed in their bits.
use Rattle.std.proofs.Common.{refl, ℕ, ◌≡◌, ◌<◌, ◌+◌, ◌-◌, ◌^◌, true, false, ℤ, pos, negsuc, ◌+ℤ◌, ◌-ℤ◌, ◌*ℤ◌, ◌≤ℤ◌, ◌<ℤ◌, T, SFits, Fits, w64, unsigned_abs, ap, sym, subst, ◌∙◌, to_z, of_z, arith}
use mir.Syntax.{Width, w128}
use Rattle.std.specs.Prelude.{int_le, int_lt}
use Rattle.std.specs.Int.{int_div_euclid, int_rem_euclid}
use Rattle.std.specs.Int.Signed.{non_neg, yes_non_neg, pos-nat_abs}
use Rattle.std.proofs.lemmas.Int.{ints, to_z-of_z}
use Rattle.vcp_base.specs.declared.code.Profile.{Profile}
use Rattle.vcp_base.specs.declared.code.Profile.TheVariants as profile
use Rattle.vcp_base.specs.Code.{modulus}
use Rattle.coded_unit.specs.Words.{modulo, value_part, coded, Middle, Small}
use Rattle.coded_unit.proofs.Modular.{whole, modulo_below, split_is, times_plus, times_minus}
use Rattle.coded_unit.proofs.Multiples.{is_below, at_least, not_below, not_at_least}
use Rattle.coded_unit.proofs.Bits.{back, widened, read_twice, small_fits, low_fits, middle_fits}

-- ---- a number that is cast to one without sign

pub cast_is : (w : Width) (z x : ℤ) (n : ℕ) → x ≡ z → T (non_neg z) → unsigned_abs z < n → n < 2 ^ 64 → T (non_neg x) × Fits w64 (unsigned_abs x)
cast_is w z x n e least below small =
    let fits : unsigned_abs z < 2 ^ 64 = omega arith in
    subst (λ y. T (non_neg y) × Fits w64 (unsigned_abs y)) (sym e) (least, record { fits = fits })

-- ---- a step of one

-- The value v and the rest x, which is near 0 to a, become the value y and the residue z.
pub record Stepped (w : Width) (a : ℕ) (v x y z : ℤ) : Type 0 where
  pub value : SFits w y
  pub rest : SFits w z
  pub cast : T (non_neg (back w z)) × Fits w64 (unsigned_abs (back w z))
  pub whole : pos a *ℤ v +ℤ x ≡ pos a *ℤ back w y +ℤ pos (unsigned_abs (back w z))
  pub below : unsigned_abs (back w z) < a

below_is : (z : ℤ) (a : ℕ) → pos 0 ≤ℤ z → z <ℤ pos a → unsigned_abs z < a
below_is z a least most = omega (arith, ints)

stepped : (w : Width) (a : ℕ) (v x y z p q : ℤ) → y ≡ p → z ≡ q → SFits w p → SFits w q → a < 2 ^ 64
    → pos 0 ≤ℤ q → q <ℤ pos a → pos a *ℤ v +ℤ x ≡ pos a *ℤ p +ℤ q → Stepped w a v x y z
stepped w a v x y z p q e f fp fq small least most same =
    let value : back w y ≡ p = ap (back w) e ∙ to_z-of_z w p fp in
    let rest : back w z ≡ q = ap (back w) f ∙ to_z-of_z w q fq in
    let below : unsigned_abs q < a = below_is q a least most in
    record {
      value = subst (SFits w) (sym e) fp;
      rest = subst (SFits w) (sym f) fq;
      cast = cast_is w q (back w z) a rest (yes_non_neg least) below small;
      whole =
          same ∙ ap (λ n. pos a *ℤ n +ℤ q) (sym value) ∙ ap (λ n. pos a *ℤ back w y +ℤ n) (sym (pos-nat_abs q (yes_non_neg least)))
          ∙ ap (λ n. pos a *ℤ back w y +ℤ pos (unsigned_abs n)) (sym rest);
      below = subst (λ n. unsigned_abs n < a) (sym rest) below;
    }

-- what may be computed of the value v and the rest x
pub record HasRoom (w : Width) (a : ℕ) (v x : ℤ) : Type 0 where
  pub less : SFits w (v -ℤ pos 1)
  pub more : SFits w (v +ℤ pos 1)
  pub sum : SFits w (x +ℤ pos a)
  pub difference : SFits w (x -ℤ pos a)
  pub least : pos 0 ≤ℤ (x +ℤ pos a)
  pub most : (x -ℤ pos a) <ℤ pos a
  pub small : a < 2 ^ 64

read_below : (w : Width) (x d : ℤ) → SFits w x → int_lt (back w x) d ≡ true → x <ℤ d
read_below w x d f h = subst (λ y. y <ℤ d) (to_z-of_z w x f) (is_below (back w x) d h)

read_least : (w : Width) (x d : ℤ) → SFits w x → int_lt (back w x) d ≡ false → d ≤ℤ x
read_least w x d f h = subst (λ y. d ≤ℤ y) (to_z-of_z w x f) (not_below (back w x) d h)

read_at_least : (w : Width) (x d : ℤ) → SFits w x → int_le d (back w x) ≡ true → d ≤ℤ x
read_at_least w x d f h = subst (λ y. d ≤ℤ y) (to_z-of_z w x f) (at_least d (back w x) h)

read_less : (w : Width) (x d : ℤ) → SFits w x → int_le d (back w x) ≡ false → x <ℤ d
read_less w x d f h = subst (λ y. y <ℤ d) (to_z-of_z w x f) (not_at_least d (back w x) h)

one_less : (a : ℕ) (v x : ℤ) → pos a *ℤ v +ℤ x ≡ pos a *ℤ (v -ℤ pos 1) +ℤ (x +ℤ pos a)
one_less a v x =
    let product = times_minus (pos a) v (pos 1) in
    omega (arith, ints)

one_more : (a : ℕ) (v x : ℤ) → pos a *ℤ v +ℤ x ≡ pos a *ℤ (v +ℤ pos 1) +ℤ (x -ℤ pos a)
one_more a v x =
    let product = times_plus (pos a) v (pos 1) in
    omega (arith, ints)

plus_below : (a : ℕ) (x : ℤ) → x <ℤ pos 0 → (x +ℤ pos a) <ℤ pos a
plus_below a x h = omega (arith, ints)

minus_least : (a : ℕ) (x : ℤ) → pos a ≤ℤ x → pos 0 ≤ℤ (x -ℤ pos a)
minus_least a x h = omega (arith, ints)

-- where the rest is below 0
pub step_down : (w : Width) (a : ℕ) (v x : ℤ) → SFits w v → SFits w x → HasRoom w a v x → int_lt (back w x) (pos 0) ≡ true
    → Stepped w a v x (back w v -ℤ pos 1) (back w x +ℤ pos a)
step_down w a v x f g room h =
    stepped w a v x (back w v -ℤ pos 1) (back w x +ℤ pos a) (v -ℤ pos 1) (x +ℤ pos a)
    (ap (λ z. z -ℤ pos 1) (to_z-of_z w v f)) (ap (λ z. z +ℤ pos a) (to_z-of_z w x g))
    room.less room.sum room.small room.least (plus_below a x (read_below w x (pos 0) g h)) (one_less a v x)

-- where it is a or more
pub step_up : (w : Width) (a : ℕ) (v x : ℤ) → SFits w v → SFits w x → HasRoom w a v x → int_le (pos a) (back w x) ≡ true
    → Stepped w a v x (back w v +ℤ pos 1) (back w x -ℤ pos a)
step_up w a v x f g room h =
    stepped w a v x (back w v +ℤ pos 1) (back w x -ℤ pos a) (v +ℤ pos 1) (x -ℤ pos a)
    (ap (λ z. z +ℤ pos 1) (to_z-of_z w v f)) (ap (λ z. z -ℤ pos a) (to_z-of_z w x g))
    room.more room.difference room.small (minus_least a x (read_at_least w x (pos a) g h)) room.most (one_more a v x)

-- where it is a residue
pub step_none : (w : Width) (a : ℕ) (v x : ℤ) → SFits w v → SFits w x → a < 2 ^ 64 → int_lt (back w x) (pos 0) ≡ false
    → int_le (pos a) (back w x) ≡ false → Stepped w a v x v x
step_none w a v x f g small h k =
    stepped w a v x v x v x refl refl f g small (read_least w x (pos 0) g h) (read_less w x (pos a) g k) refl

pub narrow_room : (v x : ℤ) → negsuc (2 ^ 40) ≤ℤ v → v ≤ℤ pos (2 ^ 40) → negsuc 2147483646 ≤ℤ x → x <ℤ pos 4294967294 → HasRoom w64 2147483647 v x
narrow_room v x low high least most = record {
  less = omega (arith, ints);
  more = omega (arith, ints);
  sum = omega (arith, ints);
  difference = omega (arith, ints);
  least = omega (arith, ints);
  most = omega (arith, ints);
  small = omega arith;
}

pub short_room : (v x : ℤ) → negsuc (2 ^ 62 + 2 ^ 61) ≤ℤ v → v ≤ℤ pos (2 ^ 62 + 2 ^ 61) → negsuc 2305843009213693950 ≤ℤ x → x <ℤ pos 4611686018427387902
    → HasRoom w64 2305843009213693951 v x
short_room v x low high least most = record {
  less = omega (arith, ints);
  more = omega (arith, ints);
  sum = omega (arith, ints);
  difference = omega (arith, ints);
  least = omega (arith, ints);
  most = omega (arith, ints);
  small = omega arith;
}

pub wide_room : (v x : ℤ) → negsuc (2 ^ 100) ≤ℤ v → v ≤ℤ pos (2 ^ 100) → negsuc 2305843009213693950 ≤ℤ x → x <ℤ pos 4611686018427387902
    → HasRoom w128 2305843009213693951 v x
wide_room v x low high least most = record {
  less = omega (arith, ints);
  more = omega (arith, ints);
  sum = omega (arith, ints);
  difference = omega (arith, ints);
  least = omega (arith, ints);
  most = omega (arith, ints);
  small = omega arith;
}

-- ---- an integer of 128 bits, cut and cast to 64

cast_down : (z : ℤ) → SFits w64 z → back w64 (back w128 z) ≡ z
cast_down z f = ap (back w64) (to_z-of_z w128 z (widened z f)) ∙ to_z-of_z w64 z f

-- z is 2^61 times h and l, of which h is cast to s
pub record CutDown (z s l : ℤ) : Type 0 where
  pub low : SFits w64 (back w128 l)
  pub whole : z ≡ pos (2 ^ 61) *ℤ back w64 s +ℤ back w64 (back w128 l)
  pub least : pos 0 ≤ℤ (back w64 (back w128 l))
  pub most : (back w64 (back w128 l)) ≤ℤ pos (2 ^ 61 - 1)

pub cut_down : (z h s l : ℤ) → z ≡ pos (2 ^ 61) *ℤ h +ℤ l → pos 0 ≤ℤ l → l ≤ℤ pos (2 ^ 61 - 1) → back w64 s ≡ h → CutDown z s l
cut_down z h s l e least most same =
    let f : SFits w64 l = low_fits l least most in
    let read : back w64 (back w128 l) ≡ l = cast_down l f in
    record {
      low = subst (SFits w64) (sym (to_z-of_z w128 l (widened l f))) f;
      whole = e ∙ ap (λ x. pos (2 ^ 61) *ℤ x +ℤ l) (sym same) ∙ ap (λ x. pos (2 ^ 61) *ℤ back w64 s +ℤ x) (sym read);
      least = subst (λ x. pos 0 ≤ℤ x) (sym read) least;
      most = subst (λ x. x ≤ℤ pos (2 ^ 61 - 1)) (sym read) most;
    }

-- the high part, where it is far from the ends of 64 bits
pub middle_read : (s h : ℤ) → Middle s → Small h → s ≡ back w128 h → back w64 s ≡ h
middle_read s h middle small e = to_z-of_z w64 s (middle_fits s middle) ∙ e ∙ to_z-of_z w128 h (small_fits h small)

-- the high part of an integer of little more than 64 bits
pub record High (h : ℤ) : Type 0 where
  pub read : back w64 (back w128 h) ≡ h
  pub fits : SFits w64 (back w128 h)
  pub low : negsuc (2 ^ 15) ≤ℤ (back w64 (back w128 h))
  pub high : (back w64 (back w128 h)) ≤ℤ pos (2 ^ 15)

pub high_of : (z h l : ℤ) → SFits w128 z → negsuc (2 ^ 75) ≤ℤ z → z ≤ℤ pos (2 ^ 75) → back w128 z ≡ pos (2 ^ 61) *ℤ h +ℤ l
    → pos 0 ≤ℤ l → l ≤ℤ pos (2 ^ 61 - 1) → High h
high_of z h l f low high e least most =
    let is : z ≡ pos (2 ^ 61) *ℤ h +ℤ l = sym (to_z-of_z w128 z f) ∙ e in
    let fits : SFits w64 h = omega (arith, ints) in
    let read : back w64 (back w128 h) ≡ h = cast_down h fits in
    let less : negsuc (2 ^ 15) ≤ℤ h = omega (arith, ints) in
    let more : h ≤ℤ pos (2 ^ 15) = omega (arith, ints) in
    record {
      read = read;
      fits = subst (SFits w64) (sym (to_z-of_z w128 h (widened h fits))) fits;
      low = subst (λ x. negsuc (2 ^ 15) ≤ℤ x) (sym read) less;
      high = subst (λ x. x ≤ℤ pos (2 ^ 15)) (sym read) more;
    }

-- a high part so small is far from the ends, and the rest is near 0 to A
pub few_high : (h : ℤ) → negsuc (2 ^ 15) ≤ℤ h → h ≤ℤ pos (2 ^ 15) → Middle h
few_high h low high = (omega (arith, ints), omega (arith, ints))

pub high_rest : (h l s : ℤ) → negsuc (2 ^ 15) ≤ℤ h → h ≤ℤ pos (2 ^ 15) → pos 0 ≤ℤ l → l ≤ℤ pos (2 ^ 61 - 1) → s ≡ h +ℤ l
    → (negsuc 2305843009213693950 ≤ℤ s) × (s <ℤ pos 4611686018427387902)
high_rest h l s low high least most e = (omega (arith, ints), omega (arith, ints))

-- ---- the parts by a division

-- q and r are what a division in w gives of x
pub record Divided (w : Width) (x q r : ℤ) : Type 0 where
  pub quotient : q ≡ int_div_euclid (back w x) (pos 2147483647)
  pub rest : r ≡ int_rem_euclid (back w x) (pos 2147483647)
  pub fits : SFits w x
  pub fits_quotient : SFits w q
  pub fits_rest : SFits w r

pub narrow_value : (w : Width) (z x q r : ℤ) → x ≡ z → Divided w x q r → back w q ≡ value_part profile.Narrow z
unfolding value_part
narrow_value w z x q r e d =
    to_z-of_z w q d.fits_quotient ∙ d.quotient ∙ ap (λ y. int_div_euclid y (pos 2147483647)) (to_z-of_z w x d.fits ∙ e)

pub narrow_residue : (w : Width) (z x q r : ℤ) → x ≡ z → Divided w x q r → unsigned_abs (back w r) ≡ modulo profile.Narrow z
unfolding modulo
narrow_residue w z x q r e d =
    ap unsigned_abs (to_z-of_z w r d.fits_rest ∙ d.rest ∙ ap (λ y. int_rem_euclid y (pos 2147483647)) (to_z-of_z w x d.fits ∙ e))

-- ---- the parts of a word

pub record Split (p : Profile) (z v : ℤ) (r : ℕ) : Type 0 where
  pub value : v ≡ value_part p z
  pub residue : r ≡ modulo p z
  pub below : r < modulus p
  pub whole : z ≡ coded p v r
  pub small : unsigned_abs v < 2 ^ 96
  pub one : (w : ℤ) (s : ℕ) → s < modulus p → z ≡ coded p w s → (w ≡ v) × (s ≡ r)

pub word_fits : (z : ℤ) → unsigned_abs z < 2 ^ 126 → SFits w128 z
word_fits z h = omega (arith, ints)

small_value : (p : Profile) (v : ℤ) (r : ℕ) → r < modulus p → unsigned_abs (coded p v r) < 2 ^ 126 → unsigned_abs v < 2 ^ 96
unfolding coded
small_value profile.Narrow v r h k = omega (arith, ints)
small_value profile.Wide v r h k = omega (arith, ints)

pub split_of : (p : Profile) (c z v : ℤ) (r : ℕ) → unsigned_abs c < 2 ^ 126 → c ≡ z → v ≡ value_part p (back w128 c) → r ≡ modulo p (back w128 c) → Split p z v r
split_of p c z v r size e f g =
    let read : back w128 c ≡ z = to_z-of_z w128 c (word_fits c size) ∙ e in
    let value : v ≡ value_part p z = f ∙ ap (value_part p) read in
    let residue : r ≡ modulo p z = g ∙ ap (modulo p) read in
    let below : r < modulus p = subst (λ n. n < modulus p) (sym residue) (modulo_below p z) in
    let all : z ≡ coded p v r = whole p z ∙ ap (λ x. coded p x (modulo p z)) (sym value) ∙ ap (coded p v) (sym residue) in
    record {
      value = value;
      residue = residue;
      below = below;
      whole = all;
      small = small_value p v r below (subst (λ x. unsigned_abs x < 2 ^ 126) (e ∙ all) size);
      one = λ w s h k. let parts = split_is p z w s h k in (parts.0 ∙ sym value, parts.1 ∙ sym residue);
    }

-- ---- a word with an integer of 64 bits added to it

pub record Shifted (c z e : ℤ) : Type 0 where
  pub sum : SFits w128 (back w128 c +ℤ back w128 (back w64 e))
  pub is : back w128 (back w128 c +ℤ back w128 (back w64 e)) ≡ z +ℤ e

sum_fits : (c e : ℤ) → unsigned_abs c < 2 ^ 126 → SFits w64 e → SFits w128 (c +ℤ e)
sum_fits c e size f = omega (arith, ints)

pub shifted_by : (c z e : ℤ) → unsigned_abs c < 2 ^ 126 → c ≡ z → SFits w64 e → Shifted c z e
shifted_by c z e size same f =
    let fits : SFits w128 (c +ℤ e) = sum_fits c e size f in
    let sum : back w128 c +ℤ back w128 (back w64 e) ≡ c +ℤ e =
    ap (λ x. x +ℤ back w128 (back w64 e)) (to_z-of_z w128 c (word_fits c size)) ∙ ap (λ x. c +ℤ x) (read_twice e f) in
    record { sum = subst (SFits w128) (sym sum) fits; is = ap (back w128) sum ∙ to_z-of_z w128 (c +ℤ e) fits ∙ ap (λ x. x +ℤ e) same }

-- what lies between the last words is one
pub between_fits : (z : ℤ) → negsuc (2 ^ 126 - 2) ≤ℤ z → z ≤ℤ pos (2 ^ 126 - 1) → SFits w128 z
between_fits z low high = omega (arith, ints)

pub between_size : (z : ℤ) → negsuc (2 ^ 126 - 2) ≤ℤ z → z ≤ℤ pos (2 ^ 126 - 1) → unsigned_abs (back w128 z) < 2 ^ 126
between_size z low high =
    let size : unsigned_abs z < 2 ^ 126 = omega (arith, ints) in
    subst (λ x. unsigned_abs x < 2 ^ 126) (sym (to_z-of_z w128 z (between_fits z low high))) size

-- ---- the parts of an integer in a code that is known

-- an integer whose bits are 0
pub zero_read : (z : ℤ) → SFits w128 z → of_z w128 z ≡ 0 → z ≡ pos 0
zero_read z f e = sym (to_z-of_z w128 z f) ∙ ap (to_z w128) e

pub value_in : (p known : Profile) (z v : ℤ) → SFits w128 z → p ≡ known → v ≡ value_part known (back w128 z) → v ≡ value_part p z
value_in p known z v f is e = e ∙ ap (value_part known) (to_z-of_z w128 z f) ∙ ap (λ q. value_part q z) (sym is)

pub residue_in : (p known : Profile) (z : ℤ) (r : ℕ) → SFits w128 z → p ≡ known → r ≡ modulo known (back w128 z) → r ≡ modulo p z
residue_in p known z r f is e = e ∙ ap (modulo known) (to_z-of_z w128 z f) ∙ ap (λ q. modulo q z) (sym is)

-- a fact of an integer as it is read, in a code that is known, is one of the integer
pub read_as : (P : ℤ → Type 0) (z : ℤ) → SFits w128 z → P (back w128 z) → P z
read_as P z f h = subst P (to_z-of_z w128 z f) h

pub known_as : (P : Profile → ℤ → Type 0) (p known : Profile) (z : ℤ) → SFits w128 z → p ≡ known → P known (back w128 z) → P p z
known_as P p known z f is h = subst (λ q. P q z) (sym is) (read_as (P known) z f h)

-- and one of the word that it is
pub word_as : (P : ℤ → Type 0) (c z : ℤ) → unsigned_abs c < 2 ^ 126 → c ≡ z → P (back w128 c) → P z
word_as P c z size e h = subst P (to_z-of_z w128 c (word_fits c size) ∙ e) h
