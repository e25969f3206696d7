-- Shifts: the word of a near value with e added to it is a word again.
use Rattle.std.proofs.Common.{◌≡◌, ℕ, ◌<◌, ◌^◌, ◌-◌, ℤ, pos, neg_ℤ, ◌+ℤ◌, ◌*ℤ◌, ◌≤ℤ◌, ◌∙◌, arith}
use Rattle.std.specs.Int.{int_min}
use Rattle.std.proofs.lemmas.Int.{ints, int_max_is, int_min_is}
use Rattle.vcp_base.specs.declared.code.Profile.{Profile}
use Rattle.vcp_base.specs.declared.code.Profile.TheVariants as profile
use Rattle.vcp_base.specs.Code.{modulus}
use Rattle.coded_unit.specs.Words.{modulo, coded, nearest_word, carry, Near, Middle}
use Rattle.coded_unit.specs.WordLaws.{ShiftLaw}
use Rattle.coded_unit.proofs.Modular.{whole, times_plus}

-- z is no further out than the last words
abbrev Inside : ℤ → Type 0
Inside z = (neg_ℤ (pos (2 ^ 126 - 1)) ≤ℤ z) × (z ≤ℤ pos (2 ^ 126 - 1))

nearest_itself : (z : ℤ) → Inside z → nearest_word z ≡ z
nearest_itself z h =
    let low = h.0 in
    let high = h.1 in
    let a = int_min_is z (pos (2 ^ 126 - 1)) in
    let b = int_max_is (neg_ℤ (pos (2 ^ 126 - 1))) (int_min z (pos (2 ^ 126 - 1))) in
    omega (arith, ints)

-- the word of a near value is far from the ends: |A*v + r| is below 2 ^ 125 + 2 ^ 61, and |e| little more than 2 ^ 62
inside : (p : Profile) (v e : ℤ) (r : ℕ) → Near v → Middle e → r < modulus p → Inside (coded p v r +ℤ e)
unfolding coded
inside profile.Narrow v e r near middle below =
    let low = near.low in
    let high = near.high in
    let e_low = middle.0 in
    let e_high = middle.1 in
    (omega (arith, ints), omega (arith, ints))
inside profile.Wide v e r near middle below =
    let low = near.low in
    let high = near.high in
    let e_low = middle.0 in
    let e_high = middle.1 in
    (omega (arith, ints), omega (arith, ints))

sum_of_parts : (p : Profile) (v e : ℤ) (r : ℕ) → coded p v r +ℤ e ≡ coded p (v +ℤ carry p r e) (modulo p (pos r +ℤ e))
unfolding coded
sum_of_parts p v e r =
    let w : pos r +ℤ e ≡ pos (modulus p) *ℤ carry p r e +ℤ pos (modulo p (pos r +ℤ e)) = whole p (pos r +ℤ e) in
    let products : pos (modulus p) *ℤ (v +ℤ carry p r e) ≡ pos (modulus p) *ℤ v +ℤ pos (modulus p) *ℤ carry p r e =
    times_plus (pos (modulus p)) v (carry p r e) in
    omega (arith, ints)

pub shifted : (p : Profile) → ShiftLaw p
shifted p v e r below near middle = nearest_itself (coded p v r +ℤ e) (inside p v e r near middle below) ∙ sum_of_parts p v e r
