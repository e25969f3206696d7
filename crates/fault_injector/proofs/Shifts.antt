-- Shifts: a word with e added to it. No word of a run comes to the edge of words.
use Rattle.std.proofs.Common.{◌≡◌, ℕ, ◌<◌, ◌^◌, ◌-◌, true, ℤ, pos, neg_ℤ, ◌+ℤ◌, ◌*ℤ◌, ◌≤ℤ◌, ap, sym, ◌∙◌, arith}
use Rattle.std.specs.Int.{int_min}
use Rattle.std.proofs.lemmas.Int.{ints, int_max_is, int_min_is}
use Rattle.vcp_base.specs.declared.code.Profile.{Profile}
use Rattle.vcp_base.specs.declared.code.Profile.TheVariants as profile
use Rattle.vcp_base.specs.declared.ty.Ty.{Ty}
use Rattle.vcp_base.specs.declared.ty.Ty.TheVariants as ty
use Rattle.vcp_base.specs.Code.{modulus}
use Rattle.vcp_base.specs.Types.{fits}
use Rattle.coded_unit.specs.Words.{modulo, value_part, coded, nearest_word}
use Rattle.coded_unit.specs.WordLaws.{WordLaws}
use Rattle.fault_script.specs.Forms.{is_addend}
use Rattle.fault_injector.specs.Stepping.{Near, carry}
use Rattle.fault_injector.proofs.Products.{times_plus}

-- ---- bounds

abbrev pub Between : ℤ → ℤ → ℤ → Type 0
Between low high z = (low ≤ℤ z) × (z ≤ℤ high)

pub addend_between : (e : ℤ) → is_addend e ≡ true → Between (neg_ℤ (pos (2 ^ 62))) (pos (2 ^ 62)) e
addend_between e h = (grind (arith, ints), grind (arith, ints))

pub fits_between : (t : Ty) (v : ℤ) → fits t v ≡ true → Between (neg_ℤ (pos (2 ^ 63))) (pos (2 ^ 63)) v
fits_between ty.Bool v h = (grind (arith, ints), grind (arith, ints))
fits_between ty.Int v h = (grind (arith, ints), grind (arith, ints))
fits_between ty.Dint v h = (grind (arith, ints), grind (arith, ints))
fits_between ty.Lint v h = (grind (arith, ints), grind (arith, ints))

pub near_of : (v : ℤ) → Between (neg_ℤ (pos (2 ^ 63))) (pos (2 ^ 63)) v → Near v
near_of v h = let low = h.0 in let high = h.1 in record { low = omega (arith, ints); high = omega (arith, ints) }

pub zero_near : Near (pos 0)
zero_near = record { low = omega (arith, ints); high = omega (arith, ints) }

-- ---- words

nearest_itself : (z : ℤ) → Between (neg_ℤ (pos (2 ^ 126 - 1))) (pos (2 ^ 126 - 1)) z → nearest_word z ≡ z
nearest_itself z h =
    let low = h.0 in
    let high = h.1 in
    let a = int_min_is z (pos (2 ^ 126 - 1)) in
    let b = int_max_is (neg_ℤ (pos (2 ^ 126 - 1))) (int_min z (pos (2 ^ 126 - 1))) in
    omega (arith, ints)

-- the word of a near value is far from the edge: |A*v + r| is below 2 ^ 125 + 2 ^ 61, and |e| at most 2 ^ 62
inside : (p : Profile) (v e : ℤ) (r : ℕ) → Near v → is_addend e ≡ true → r < modulus p →
    Between (neg_ℤ (pos (2 ^ 126 - 1))) (pos (2 ^ 126 - 1)) (coded p v r +ℤ e)
unfolding coded
inside profile.Narrow v e r near addend below =
    let low = near.low in
    let high = near.high in
    let between = addend_between e addend in
    let e_low = between.0 in
    let e_high = between.1 in
    (omega (arith, ints), omega (arith, ints))
inside profile.Wide v e r near addend below =
    let low = near.low in
    let high = near.high in
    let between = addend_between e addend in
    let e_low = between.0 in
    let e_high = between.1 in
    (omega (arith, ints), omega (arith, ints))

-- the residue after e is added to a residue
residue_shifts : (p : Profile) → WordLaws p → (z e : ℤ) → modulo p (pos (modulo p z) +ℤ e) ≡ modulo p (z +ℤ e)
unfolding coded
residue_shifts p laws z e =
    let w : z ≡ pos (modulus p) *ℤ value_part p z +ℤ pos (modulo p z) = laws.whole z in
    let sum : z +ℤ e ≡ (pos (modulo p z) +ℤ e) +ℤ pos (modulus p) *ℤ value_part p z = omega (arith, ints) in
    sym (laws.multiple (z +ℤ e) (pos (modulo p z) +ℤ e) (value_part p z) sum)

sum_of_parts : (p : Profile) → WordLaws p → (v e : ℤ) (r : ℕ) → coded p v r +ℤ e ≡ coded p (v +ℤ carry p r e) (modulo p (pos r +ℤ e))
unfolding coded
sum_of_parts p laws v e r =
    let w : pos r +ℤ e ≡ pos (modulus p) *ℤ carry p r e +ℤ pos (modulo p (pos r +ℤ e)) = laws.whole (pos r +ℤ e) in
    let products : pos (modulus p) *ℤ (v +ℤ carry p r e) ≡ pos (modulus p) *ℤ v +ℤ pos (modulus p) *ℤ carry p r e =
    times_plus (pos (modulus p)) v (carry p r e) in
    omega (arith, ints)

-- a word of a near value with e added is a word again: its value grows by what is carried, and its residue by e
pub shifted_word : (p : Profile) → WordLaws p → (v z e : ℤ) → Near v → is_addend e ≡ true →
    nearest_word (coded p v (modulo p z) +ℤ e) ≡ coded p (v +ℤ carry p (modulo p z) e) (modulo p (z +ℤ e))
shifted_word p laws v z e near addend =
    nearest_itself (coded p v (modulo p z) +ℤ e) (inside p v e (modulo p z) near addend (laws.below z))
    ∙ (sum_of_parts p laws v e (modulo p z) ∙ ap (coded p (v +ℤ carry p (modulo p z) e)) (residue_shifts p laws z e))

-- a value of a type stays near
carried : (p : Profile) (v e c : ℤ) (r m : ℕ) → Between (neg_ℤ (pos (2 ^ 63))) (pos (2 ^ 63)) v → is_addend e ≡ true → r < modulus p → m < modulus p →
    pos r +ℤ e ≡ pos (modulus p) *ℤ c +ℤ pos m → Near (v +ℤ c)
carried profile.Narrow v e c r m between addend below least w =
    let low = between.0 in
    let high = between.1 in
    let e_low = (addend_between e addend).0 in
    let e_high = (addend_between e addend).1 in
    record { low = omega (arith, ints); high = omega (arith, ints) }
carried profile.Wide v e c r m between addend below least w =
    let low = between.0 in
    let high = between.1 in
    let e_low = (addend_between e addend).0 in
    let e_high = (addend_between e addend).1 in
    record { low = omega (arith, ints); high = omega (arith, ints) }

pub carry_near : (p : Profile) → WordLaws p → (v z e : ℤ) → Between (neg_ℤ (pos (2 ^ 63))) (pos (2 ^ 63)) v → is_addend e ≡ true →
    Near (v +ℤ carry p (modulo p z) e)
unfolding coded
carry_near p laws v z e between addend =
    carried p v e (carry p (modulo p z) e) (modulo p z) (modulo p (pos (modulo p z) +ℤ e)) between addend (laws.below z)
    (laws.below (pos (modulo p z) +ℤ e)) (laws.whole (pos (modulo p z) +ℤ e))
