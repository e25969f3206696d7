-- Totals: the terms of a residue and their sum, as they are computed in their bits.
use Rattle.std.proofs.Common.{◌≡◌, ℕ, ◌<◌, ℤ, pos, negsuc, ◌+ℤ◌, ◌-ℤ◌, ◌*ℤ◌, ◌≤ℤ◌, ◌^◌, sym, ap, subst, ◌∙◌, to_z, SFits, w32, w64, arith}
use mir.Syntax.{Width, w128}
use Rattle.std.proofs.lemmas.Int.{ints, to_z-of_z, to_z_pos}
use Rattle.std.proofs.lemmas.Grind.{common_steps}
use Rattle.vcp_base.specs.declared.kind.Kind.{Kind}
use Rattle.vcp_base.specs.Kinds.{multiplier}
use Rattle.coded_unit.specs.Words.{Short, Small}
use Rattle.coded_unit.specs.Right.{stamp_share}
use Rattle.coded_unit.proofs.Bits.{back, short_fits, small_fits}

-- ---- a factor times a residue

product_is : (w : Width) (f : ℤ) (n : ℕ) → SFits w32 f → SFits w f → to_z w n ≡ pos n → back w (back w32 f) *ℤ to_z w n ≡ f *ℤ pos n
product_is w f n narrow wide is =
    ap (λ x. back w x *ℤ to_z w n) (to_z-of_z w32 f narrow) ∙ ap (λ x. x *ℤ to_z w n) (to_z-of_z w f wide) ∙ ap (λ x. f *ℤ x) is

short_product : (f : ℤ) (n : ℕ) → n < 2 ^ 32 → negsuc 60 ≤ℤ f → f ≤ℤ pos 61 → Short (f *ℤ pos n)
short_product f n below low high = grind (ints, arith, common_steps)

small_product : (f : ℤ) (n : ℕ) → n < 2 ^ 64 → negsuc 60 ≤ℤ f → f ≤ℤ pos 61 → Small (f *ℤ pos n)
small_product f n below low high = grind (ints, arith, common_steps)

-- a product, as it is computed
pub record Scaled (w : Width) (Near : ℤ → Type 0) (f : ℤ) (n : ℕ) : Type 0 where
  pub fits : SFits w (back w (back w32 f) *ℤ to_z w n)
  pub is : back w (back w (back w32 f) *ℤ to_z w n) ≡ f *ℤ pos n
  pub near : Near (back w (back w (back w32 f) *ℤ to_z w n))

scaled : (w : Width) (Near : ℤ → Type 0) (f : ℤ) (n : ℕ) → SFits w32 f → SFits w f → to_z w n ≡ pos n → SFits w (f *ℤ pos n) → Near (f *ℤ pos n)
    → Scaled w Near f n
scaled w Near f n narrow wide number fits near =
    let product = product_is w f n narrow wide number in
    let is = ap (back w) product ∙ to_z-of_z w (f *ℤ pos n) fits in
    record { fits = subst (SFits w) (sym product) fits; is = is; near = subst Near (sym is) near }

factor_fits : (f : ℤ) → negsuc 60 ≤ℤ f → f ≤ℤ pos 61 → SFits w64 f × SFits w128 f
factor_fits f low high = (omega (arith, ints), omega (arith, ints))

pub scaled_short : (f : ℤ) (n : ℕ) → SFits w32 f → n < 2 ^ 32 → negsuc 60 ≤ℤ f → f ≤ℤ pos 61 → Scaled w64 Short f n
scaled_short f n narrow below low high =
    let near = short_product f n below low high in
    scaled w64 Short f n narrow (factor_fits f low high).0 (to_z_pos w64 n (omega arith)) (short_fits (f *ℤ pos n) near) near

pub scaled_small : (f : ℤ) (n : ℕ) → SFits w32 f → n < 2 ^ 64 → negsuc 60 ≤ℤ f → f ≤ℤ pos 61 → Scaled w128 Small f n
scaled_small f n narrow below low high =
    let near = small_product f n below low high in
    scaled w128 Small f n narrow (factor_fits f low high).1 (to_z_pos w128 n (omega arith)) (small_fits (f *ℤ pos n) near) near

-- what a factor is read back as lies within the same ends
pub factor_read : (f : ℤ) → SFits w32 f → negsuc 1 ≤ℤ f → f ≤ℤ pos 20 → (negsuc 60 ≤ℤ back w32 f) × (back w32 f ≤ℤ pos 61)
factor_read f fits low high =
    let is = to_z-of_z w32 f fits in
    (omega (arith, ints), omega (arith, ints))

pub share_read : (f : ℤ) → SFits w32 f → negsuc 60 ≤ℤ f → f ≤ℤ pos 61 → (negsuc 60 ≤ℤ back w32 f) × (back w32 f ≤ℤ pos 61)
share_read f fits low high = subst (λ x. (negsuc 60 ≤ℤ x) × (x ≤ℤ pos 61)) (sym (to_z-of_z w32 f fits)) (low, high)

-- ---- how often the stamp is added

-- 1 less three multipliers, as it is computed
pub record Share (k : Kind) (a b c : ℤ) : Type 0 where
  pub three : SFits w32 (back w32 (back w32 (pos 1 -ℤ back w32 a) -ℤ back w32 b) -ℤ back w32 c)
  pub is : back w32 (back w32 (back w32 (pos 1 -ℤ back w32 a) -ℤ back w32 b) -ℤ back w32 c) ≡ stamp_share k
  pub low : negsuc 60 ≤ℤ (back w32 (back w32 (back w32 (pos 1 -ℤ back w32 a) -ℤ back w32 b) -ℤ back w32 c))
  pub high : (back w32 (back w32 (back w32 (pos 1 -ℤ back w32 a) -ℤ back w32 b) -ℤ back w32 c)) ≤ℤ pos 61

-- a multiplier
abbrev pub Few : ℤ → Type 0
Few f = (negsuc 1 ≤ℤ f) × (f ≤ℤ pos 20)

few_fits : (f : ℤ) → Few f → SFits w32 f
few_fits f h =
    let low = h.0 in
    let high = h.1 in
    omega (arith, ints)

less_one : (a : ℤ) → Few a → SFits w32 (pos 1 -ℤ a)
less_one a h =
    let low = h.0 in
    let high = h.1 in
    omega (arith, ints)

less_two : (a b : ℤ) → Few a → Few b → SFits w32 (pos 1 -ℤ a -ℤ b)
less_two a b ha hb =
    let a0 = ha.0 in
    let a1 = ha.1 in
    let b0 = hb.0 in
    let b1 = hb.1 in
    omega (arith, ints)

one_is : (a : ℤ) → Few a → pos 1 -ℤ back w32 a ≡ pos 1 -ℤ a
one_is a h = ap (λ x. pos 1 -ℤ x) (to_z-of_z w32 a (few_fits a h))

two_is : (a b : ℤ) → Few a → Few b → back w32 (pos 1 -ℤ back w32 a) -ℤ back w32 b ≡ pos 1 -ℤ a -ℤ b
two_is a b ha hb =
    ap (λ x. back w32 x -ℤ back w32 b) (one_is a ha) ∙ ap (λ x. x -ℤ back w32 b) (to_z-of_z w32 (pos 1 -ℤ a) (less_one a ha))
    ∙ ap (λ x. pos 1 -ℤ a -ℤ x) (to_z-of_z w32 b (few_fits b hb))

pub one_fits : (a : ℤ) → Few a → SFits w32 (pos 1 -ℤ back w32 a)
one_fits a h = subst (SFits w32) (sym (one_is a h)) (less_one a h)

pub two_fits : (a b : ℤ) → Few a → Few b → SFits w32 (back w32 (pos 1 -ℤ back w32 a) -ℤ back w32 b)
two_fits a b ha hb = subst (SFits w32) (sym (two_is a b ha hb)) (less_two a b ha hb)

share_within : (a b c : ℤ) → Few a → Few b → Few c → (negsuc 60 ≤ℤ (pos 1 -ℤ a -ℤ b -ℤ c)) × ((pos 1 -ℤ a -ℤ b -ℤ c) ≤ℤ pos 61)
    × SFits w32 (pos 1 -ℤ a -ℤ b -ℤ c)
share_within a b c ha hb hc =
    let a0 = ha.0 in
    let a1 = ha.1 in
    let b0 = hb.0 in
    let b1 = hb.1 in
    let c0 = hc.0 in
    let c1 = hc.1 in
    (omega (arith, ints), omega (arith, ints), omega (arith, ints))

pub share : (k : Kind) (a b c : ℤ) → a ≡ multiplier k 0 → b ≡ multiplier k 1 → c ≡ multiplier k 2 → Few a → Few b → Few c → Share k a b c
share k a b c ea eb ec ha hb hc =
    let all = share_within a b c ha hb hc in
    let three : back w32 (back w32 (pos 1 -ℤ back w32 a) -ℤ back w32 b) -ℤ back w32 c ≡ pos 1 -ℤ a -ℤ b -ℤ c =
    ap (λ x. back w32 x -ℤ back w32 c) (two_is a b ha hb) ∙ ap (λ x. x -ℤ back w32 c) (to_z-of_z w32 (pos 1 -ℤ a -ℤ b) (less_two a b ha hb))
    ∙ ap (λ x. pos 1 -ℤ a -ℤ b -ℤ x) (to_z-of_z w32 c (few_fits c hc)) in
    let read : back w32 (back w32 (back w32 (pos 1 -ℤ back w32 a) -ℤ back w32 b) -ℤ back w32 c) ≡ pos 1 -ℤ a -ℤ b -ℤ c =
    ap (back w32) three ∙ to_z-of_z w32 (pos 1 -ℤ a -ℤ b -ℤ c) all.2 in
    record {
      three = subst (SFits w32) (sym three) all.2;
      is =
          read ∙ ap (λ x. pos 1 -ℤ x -ℤ b -ℤ c) ea ∙ ap (λ x. pos 1 -ℤ multiplier k 0 -ℤ x -ℤ c) eb
          ∙ ap (λ x. pos 1 -ℤ multiplier k 0 -ℤ multiplier k 1 -ℤ x) ec;
      low = subst (λ x. negsuc 60 ≤ℤ x) (sym read) all.0;
      high = subst (λ x. x ≤ℤ pos 61) (sym read) all.1;
    }

-- ---- the sum of four terms and a correction

abbrev sum_2 : Width → ℤ → ℤ → ℤ
sum_2 w a b = back w a +ℤ back w b

abbrev sum_3 : Width → ℤ → ℤ → ℤ → ℤ
sum_3 w a b c = back w (sum_2 w a b) +ℤ back w c

abbrev sum_4 : Width → ℤ → ℤ → ℤ → ℕ → ℤ
sum_4 w a b c n = back w (sum_3 w a b c) +ℤ to_z w n

abbrev sum_5 : Width → ℤ → ℤ → ℤ → ℕ → ℤ → ℤ
sum_5 w a b c n d = back w (sum_4 w a b c n) +ℤ back w d

-- the sum, as it is computed
pub record Total (w : Width) (a b c : ℤ) (n : ℕ) (d : ℤ) : Type 0 where
  pub two : SFits w (sum_2 w a b)
  pub three : SFits w (sum_3 w a b c)
  pub four : SFits w (sum_4 w a b c n)
  pub five : SFits w (sum_5 w a b c n d)
  pub is : back w (sum_5 w a b c n d) ≡ a +ℤ b +ℤ c +ℤ pos n +ℤ d

total : (w : Width) (a b c : ℤ) (n : ℕ) (d : ℤ) → SFits w a → SFits w b → SFits w c → to_z w n ≡ pos n → SFits w d
    → SFits w (a +ℤ b) → SFits w (a +ℤ b +ℤ c) → SFits w (a +ℤ b +ℤ c +ℤ pos n) → SFits w (a +ℤ b +ℤ c +ℤ pos n +ℤ d) → Total w a b c n d
total w a b c n d fa fb fc number fd f2 f3 f4 f5 =
    let two : sum_2 w a b ≡ a +ℤ b = ap (λ x. x +ℤ back w b) (to_z-of_z w a fa) ∙ ap (λ x. a +ℤ x) (to_z-of_z w b fb) in
    let three : sum_3 w a b c ≡ a +ℤ b +ℤ c =
    ap (λ x. back w x +ℤ back w c) two ∙ ap (λ x. x +ℤ back w c) (to_z-of_z w (a +ℤ b) f2) ∙ ap (λ x. a +ℤ b +ℤ x) (to_z-of_z w c fc) in
    let four : sum_4 w a b c n ≡ a +ℤ b +ℤ c +ℤ pos n =
    ap (λ x. back w x +ℤ to_z w n) three ∙ ap (λ x. x +ℤ to_z w n) (to_z-of_z w (a +ℤ b +ℤ c) f3) ∙ ap (λ x. a +ℤ b +ℤ c +ℤ x) number in
    let five : sum_5 w a b c n d ≡ a +ℤ b +ℤ c +ℤ pos n +ℤ d =
    ap (λ x. back w x +ℤ back w d) four ∙ ap (λ x. x +ℤ back w d) (to_z-of_z w (a +ℤ b +ℤ c +ℤ pos n) f4) ∙ ap (λ x. a +ℤ b +ℤ c +ℤ pos n +ℤ x) (to_z-of_z w d fd) in
    record {
      two = subst (SFits w) (sym two) f2;
      three = subst (SFits w) (sym three) f3;
      four = subst (SFits w) (sym four) f4;
      five = subst (SFits w) (sym five) f5;
      is = ap (back w) five ∙ to_z-of_z w (a +ℤ b +ℤ c +ℤ pos n +ℤ d) f5;
    }

pub short_total : (a b c : ℤ) (n : ℕ) (d : ℤ) → Short a → Short b → Short c → n < 2 ^ 32 → Short d → Total w64 a b c n d
short_total a b c n d ha hb hc below hd =
    let a0 = ha.0 in
    let a1 = ha.1 in
    let b0 = hb.0 in
    let b1 = hb.1 in
    let c0 = hc.0 in
    let c1 = hc.1 in
    let d0 = hd.0 in
    let d1 = hd.1 in
    total w64 a b c n d (short_fits a ha) (short_fits b hb) (short_fits c hc) (to_z_pos w64 n (omega arith)) (short_fits d hd) (omega (arith, ints)) (omega (arith, ints))
    (omega (arith, ints)) (omega (arith, ints))

pub small_total : (a b c : ℤ) (n : ℕ) (d : ℤ) → Small a → Small b → Small c → n < 2 ^ 64 → Small d
    → Total w128 a b c n d × (negsuc (2 ^ 75) ≤ℤ (a +ℤ b +ℤ c +ℤ pos n +ℤ d)) × ((a +ℤ b +ℤ c +ℤ pos n +ℤ d) ≤ℤ pos (2 ^ 75))
small_total a b c n d ha hb hc below hd =
    let a0 = ha.0 in
    let a1 = ha.1 in
    let b0 = hb.0 in
    let b1 = hb.1 in
    let c0 = hc.0 in
    let c1 = hc.1 in
    let d0 = hd.0 in
    let d1 = hd.1 in (
      total w128 a b c n d (small_fits a ha) (small_fits b hb) (small_fits c hc) (to_z_pos w128 n (omega arith)) (small_fits d hd) (omega (arith, ints)) (omega (arith, ints))
          (omega (arith, ints)) (omega (arith, ints)),
      omega (arith, ints),
      omega (arith, ints),
    )
