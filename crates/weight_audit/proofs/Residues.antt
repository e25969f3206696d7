-- Residues: sums and products of residues, and lists of them.
use Rattle.std.proofs.Common.{◌≡◌, ◌≢◌, ◌⊎◌, ⊎_elim, ℕ, ◌+◌, ◌*◌, ◌<◌, true, false, cond, ◌==◌, ℤ, pos, ◌+ℤ◌, ◌*ℤ◌, List, length, set, replicate, ap, sym, ◌∙◌, arith}
use borrow.Author.Differences.{up, down}
use Rattle.std.proofs.Math.IntN.{*ℤ_comm}
use Rattle.std.proofs.lemmas.Int.{ints}
use Rattle.std.proofs.lemmas.Bool.Decides.{eqb_tells}
use Rattle.std.proofs.lemmas.List.{length-set, length-replicate, get_or-set_same, get_or-set_other, get_or-replicate}
use Rattle.vcp_base.specs.declared.code.Profile.{Profile}
use Rattle.vcp_base.specs.Code.{modulus}
use Rattle.coded_unit.specs.Words.{modulo, value_part, coded}
use Rattle.coded_unit.specs.WordLaws.{WordLaws}
use Rattle.weight_audit.specs.Sweeping.{number, greater, AreResidues}

-- ---- products of integers

pub times_plus : (a x y : ℤ) → a *ℤ (x +ℤ y) ≡ a *ℤ x +ℤ a *ℤ y
times_plus a x y =
    let s : up (x +ℤ y) + down x + down y ≡ down (x +ℤ y) + up x + up y = omega (arith, ints) in
    let p : up a * (up (x +ℤ y) + down x + down y) ≡ up a * (down (x +ℤ y) + up x + up y) = ap (λ n. up a * n) s in
    let q : down a * (up (x +ℤ y) + down x + down y) ≡ down a * (down (x +ℤ y) + up x + up y) = ap (λ n. down a * n) s in
    omega (arith, ints)

pub plus_times : (x y a : ℤ) → (x +ℤ y) *ℤ a ≡ x *ℤ a +ℤ y *ℤ a
plus_times x y a =
    let e : (x +ℤ y) *ℤ a ≡ a *ℤ (x +ℤ y) = *ℤ_comm (x +ℤ y) a in
    let f : a *ℤ x ≡ x *ℤ a = *ℤ_comm a x in
    let g : a *ℤ y ≡ y *ℤ a = *ℤ_comm a y in
    let h : a *ℤ (x +ℤ y) ≡ a *ℤ x +ℤ a *ℤ y = times_plus a x y in
    omega (arith, ints)

pub times_scaled : (a b y : ℤ) → a *ℤ (b *ℤ y) ≡ b *ℤ (a *ℤ y)
times_scaled a b y =
    let s : up (b *ℤ y) + (up b * down y + down b * up y) ≡ down (b *ℤ y) + (up b * up y + down b * down y) = omega (arith, ints) in
    let p : up a * (up (b *ℤ y) + (up b * down y + down b * up y)) ≡ up a * (down (b *ℤ y) + (up b * up y + down b * down y)) = ap (λ n. up a * n) s in
    let q : down a * (up (b *ℤ y) + (up b * down y + down b * up y)) ≡ down a * (down (b *ℤ y) + (up b * up y + down b * down y)) = ap (λ n. down a * n) s in
    let t : up (a *ℤ y) + (up a * down y + down a * up y) ≡ down (a *ℤ y) + (up a * up y + down a * down y) = omega (arith, ints) in
    let u : up b * (up (a *ℤ y) + (up a * down y + down a * up y)) ≡ up b * (down (a *ℤ y) + (up a * up y + down a * down y)) = ap (λ n. up b * n) t in
    let v : down b * (up (a *ℤ y) + (up a * down y + down a * up y)) ≡ down b * (down (a *ℤ y) + (up a * up y + down a * down y)) = ap (λ n. down b * n) t in
    omega (arith, ints)

-- ---- residues

-- a summand may be taken for its residue
pub residue_plus : (p : Profile) → WordLaws p → (x y : ℤ) → modulo p (pos (modulo p x) +ℤ y) ≡ modulo p (x +ℤ y)
unfolding coded
residue_plus p laws x y =
    let w : x ≡ pos (modulus p) *ℤ value_part p x +ℤ pos (modulo p x) = laws.whole x in
    let e : x +ℤ y ≡ (pos (modulo p x) +ℤ y) +ℤ pos (modulus p) *ℤ value_part p x = omega (arith, ints) in
    sym (laws.multiple (x +ℤ y) (pos (modulo p x) +ℤ y) (value_part p x) e)

-- so may a factor
pub residue_times : (p : Profile) → WordLaws p → (x a y : ℤ) → modulo p (x +ℤ a *ℤ pos (modulo p y)) ≡ modulo p (x +ℤ a *ℤ y)
unfolding coded
residue_times p laws x a y =
    let w : y ≡ pos (modulus p) *ℤ value_part p y +ℤ pos (modulo p y) = laws.whole y in
    let h : a *ℤ y ≡ a *ℤ (pos (modulus p) *ℤ value_part p y +ℤ pos (modulo p y)) = ap (λ z. a *ℤ z) w in
    let s : a *ℤ (pos (modulus p) *ℤ value_part p y +ℤ pos (modulo p y)) ≡ a *ℤ (pos (modulus p) *ℤ value_part p y) +ℤ a *ℤ pos (modulo p y) =
    times_plus a (pos (modulus p) *ℤ value_part p y) (pos (modulo p y)) in
    let k : a *ℤ (pos (modulus p) *ℤ value_part p y) ≡ pos (modulus p) *ℤ (a *ℤ value_part p y) = times_scaled a (pos (modulus p)) (value_part p y) in
    let e : x +ℤ a *ℤ y ≡ (x +ℤ a *ℤ pos (modulo p y)) +ℤ pos (modulus p) *ℤ (a *ℤ value_part p y) = omega (arith, ints) in
    sym (laws.multiple (x +ℤ a *ℤ y) (x +ℤ a *ℤ pos (modulo p y)) (a *ℤ value_part p y) e)

pub residue_zero : (p : Profile) → WordLaws p → modulo p (pos 0) ≡ 0
residue_zero p laws =
    let below : modulo p (pos 0) < modulus p = laws.below (pos 0) in
    laws.small 0 (omega (arith, below))

-- ---- lists of residues

-- the residues of integers are those of others that have the same residues
pub are_same : (p : Profile) (count : ℕ) (f g : ℕ → ℤ) (numbers : List ℕ) → AreResidues p count f numbers
    → ((k : ℕ) → k < count → modulo p (f k) ≡ modulo p (g k)) → AreResidues p count g numbers
are_same p count f g numbers r same = record { many = r.many; each = λ k lt. r.each k lt ∙ same k lt }

pub are_equal : (p : Profile) (count : ℕ) (f g : ℕ → ℤ) (numbers : List ℕ) → AreResidues p count f numbers → ((k : ℕ) → f k ≡ g k)
    → AreResidues p count g numbers
are_equal p count f g numbers r same = are_same p count f g numbers r (λ k lt. ap (modulo p) (same k))

pub are_zeros : (p : Profile) (count : ℕ) → WordLaws p → AreResidues p count (λ k. pos 0) (replicate count 0)
are_zeros p count laws = record { many = length-replicate count 0; each = λ k lt. get_or-replicate count k 0 0 lt ∙ sym (residue_zero p laws) }

-- one of them is set
are_set_at : (p : Profile) (count : ℕ) (f : ℕ → ℤ) (numbers : List ℕ) (n : ℕ) (z : ℤ) (r k : ℕ) → WordLaws p → n < length numbers
    → AreResidues p count f numbers → r ≡ modulo p (pos (number numbers n) +ℤ z) → k < count
    → ((k == n) ≡ true) × (k ≡ n) ⊎ ((k == n) ≡ false) × (k ≢ n) → number (set numbers n r) k ≡ modulo p (f k +ℤ cond (k == n) z (pos 0))
are_set_at p count f numbers n z r k laws inside are is lt h = ⊎_elim here there h
  where
    here : ((k == n) ≡ true) × (k ≡ n) → number (set numbers n r) k ≡ modulo p (f k +ℤ cond (k == n) z (pos 0))
    here e =
        ap (number (set numbers n r)) e.1 ∙ get_or-set_same numbers n r 0 inside ∙ is
        ∙ ap (λ m. modulo p (pos m +ℤ z)) (ap (number numbers) (sym e.1) ∙ are.each k lt)
        ∙ residue_plus p laws (f k) z
        ∙ ap (λ b. modulo p (f k +ℤ cond b z (pos 0))) (sym e.0)

    there : ((k == n) ≡ false) × (k ≢ n) → number (set numbers n r) k ≡ modulo p (f k +ℤ cond (k == n) z (pos 0))
    there e =
        let same : f k ≡ f k +ℤ pos 0 = omega (arith, ints) in
        get_or-set_other numbers n k r 0 e.1 ∙ are.each k lt ∙ ap (modulo p) same ∙ ap (λ b. modulo p (f k +ℤ cond b z (pos 0))) (sym e.0)

pub are_set : (p : Profile) (count : ℕ) (f : ℕ → ℤ) (numbers : List ℕ) (n : ℕ) (z : ℤ) (r : ℕ) → WordLaws p → n < length numbers → AreResidues p count f numbers
    → r ≡ modulo p (pos (number numbers n) +ℤ z) → AreResidues p count (greater f n z) (set numbers n r)
are_set p count f numbers n z r laws inside are is = record {
  many = length-set numbers n r ∙ are.many;
  each = λ k lt. are_set_at p count f numbers n z r k laws inside are is lt (eqb_tells k n);
}
