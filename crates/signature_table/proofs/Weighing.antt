-- Weighing: a signature times a multiplier is small, and what is taken out of a signature is computed in 128 bits.
use Rattle.std.proofs.Common.{◌≡◌, ℕ, ◌<◌, ◌≤◌, ◌*◌, ◌^◌, ℤ, pos, negsuc, ◌-ℤ◌, ◌*ℤ◌, to_z, of_z, SFits, ap, sym, subst, ◌∙◌, arith}
use Rattle.std.specs.Prelude.{unsigned_abs}
use Rattle.std.proofs.Math.Nat.{mul-le-mul}
use Rattle.std.proofs.lemmas.Int.{ints, unsigned_abs-mul, to_z-of_z, to_z_pos}
use mir.Syntax.{Width, w128}
use Rattle.coded_unit.specs.Words.{Small}

small_by_size : (z : ℤ) → unsigned_abs z ≤ 2 ^ 72 → Small z
small_by_size (pos n) h = (omega (arith, ints), omega (arith, ints))
small_by_size (negsuc n) h = (omega (arith, ints), omega (arith, ints))

pub small_product : (a b : ℤ) → unsigned_abs a ≤ 20 → unsigned_abs b ≤ 2 ^ 60 → Small (a *ℤ b)
small_product a b at_a at_b =
    let is : unsigned_abs (a *ℤ b) ≡ unsigned_abs a * unsigned_abs b = unsigned_abs-mul a b in
    let le : unsigned_abs a * unsigned_abs b ≤ 20 * 2 ^ 60 = mul-le-mul at_a at_b in
    small_by_size (a *ℤ b) (omega (arith, is, le))

-- an integer that is read back from its bits
abbrev pub back : Width → ℤ → ℤ
back w z = to_z w (of_z w z)

pub as_read : (w : Width) (P : ℤ → Type 0) (z : ℤ) → SFits w z → P z → P (back w z)
as_read w P z f h = subst P (sym (to_z-of_z w z f)) h

-- ---- a signature, with three others taken out of it

-- what is computed
pub record TakenOut (n : ℕ) (a b c : ℤ) : Type 0 where
  pub one : SFits w128 (to_z w128 n -ℤ back w128 a)
  pub two : SFits w128 (back w128 (to_z w128 n -ℤ back w128 a) -ℤ back w128 b)
  pub three : SFits w128 (back w128 (back w128 (to_z w128 n -ℤ back w128 a) -ℤ back w128 b) -ℤ back w128 c)
  pub is : back w128 (back w128 (back w128 (to_z w128 n -ℤ back w128 a) -ℤ back w128 b) -ℤ back w128 c) ≡ pos n -ℤ a -ℤ b -ℤ c

small_fits : (z : ℤ) → Small z → SFits w128 z
small_fits z h =
    let low = h.0 in
    let high = h.1 in
    omega (arith, ints)

less_fits : (n : ℕ) (a b c : ℤ) → n < 2 ^ 64 → Small a → Small b → Small c
    → SFits w128 (pos n -ℤ a) × SFits w128 (pos n -ℤ a -ℤ b) × SFits w128 (pos n -ℤ a -ℤ b -ℤ c)
less_fits n a b c under ha hb hc =
    let a0 = ha.0 in
    let a1 = ha.1 in
    let b0 = hb.0 in
    let b1 = hb.1 in
    let c0 = hc.0 in
    let c1 = hc.1 in
    (omega (arith, ints), omega (arith, ints), omega (arith, ints))

pub taken_out : (n : ℕ) (a b c : ℤ) → n < 2 ^ 64 → Small a → Small b → Small c → TakenOut n a b c
taken_out n a b c under ha hb hc =
    let fit = less_fits n a b c under ha hb hc in
    let one : to_z w128 n -ℤ back w128 a ≡ pos n -ℤ a =
    ap (λ x. x -ℤ back w128 a) (to_z_pos w128 n (omega arith)) ∙ ap (λ x. pos n -ℤ x) (to_z-of_z w128 a (small_fits a ha)) in
    let two : back w128 (to_z w128 n -ℤ back w128 a) -ℤ back w128 b ≡ pos n -ℤ a -ℤ b =
    ap (λ x. back w128 x -ℤ back w128 b) one ∙ ap (λ x. x -ℤ back w128 b) (to_z-of_z w128 (pos n -ℤ a) fit.0)
    ∙ ap (λ x. pos n -ℤ a -ℤ x) (to_z-of_z w128 b (small_fits b hb)) in
    let three : back w128 (back w128 (to_z w128 n -ℤ back w128 a) -ℤ back w128 b) -ℤ back w128 c ≡ pos n -ℤ a -ℤ b -ℤ c =
    ap (λ x. back w128 x -ℤ back w128 c) two ∙ ap (λ x. x -ℤ back w128 c) (to_z-of_z w128 (pos n -ℤ a -ℤ b) fit.1)
    ∙ ap (λ x. pos n -ℤ a -ℤ b -ℤ x) (to_z-of_z w128 c (small_fits c hc)) in
    record {
      one = subst (SFits w128) (sym one) fit.0;
      two = subst (SFits w128) (sym two) fit.1;
      three = subst (SFits w128) (sym three) fit.2;
      is = ap (back w128) three ∙ to_z-of_z w128 (pos n -ℤ a -ℤ b -ℤ c) fit.2;
    }
