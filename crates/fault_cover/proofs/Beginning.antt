-- Beginning: each operation that is looked for is reached from itself.
use Rattle.std.proofs.Common.{◌≡◌, ◌≢◌, ◌⊎◌, ⊎_elim, inl, inr, ℕ, suc, ◌+◌, ◌<◌, ◌≤◌, ◌==◌, nat_lt, Bool, true, false, List, [], ◌∷◌, ◌++◌, length, Option}
use Rattle.std.proofs.Common.{None, ap, sym, subst, ◌∙◌, arith}
use Rattle.std.proofs.lemmas.Bool.Decides.{eqb_tells, leb_tells}
use Rattle.std.proofs.lemmas.List.{get_or_append_left, get_or_past, get_or_push, length_push}
use Rattle.fault_cover.specs.declared.nearest.Nearest.{Nearest}
use Rattle.fault_cover.specs.Walks.{IsBegun, is_wanted, itself, kept}

pub begun_more : (wanted : List Bool) (old new : List (Option Nearest)) (k : ℕ) (near : Option Nearest) → length old ≡ k
    → ((n : ℕ) → n < k → kept old n ≡ itself (is_wanted wanted n) n) → near ≡ itself (is_wanted wanted k) k → new ≡ old ++ near ∷ []
    → (length new ≡ k + 1) × ((n : ℕ) → n < k + 1 → kept new n ≡ itself (is_wanted wanted n) n)
begun_more wanted old new k near many each is push = (
  ap length push ∙ length_push old near ∙ ap (λ m. m + 1) many,
  λ n lt. ap (λ xs. kept xs n) push ∙ ⊎_elim
      (λ (h : ((n == k) ≡ true) × (n ≡ k)).
      subst (λ m. kept (old ++ near ∷ []) m ≡ itself (is_wanted wanted m) m) (sym h.1) (get_or_push old near None k many ∙ is))
      (λ (h : ((n == k) ≡ false) × (n ≢ k)).
      let less : n < k = let ne = h.1 in omega (arith, lt, ne) in
      get_or_append_left old (near ∷ []) None n (omega (arith, less, many)) ∙ each n less)
      (eqb_tells n k),
)

pub begun_all : (wanted : List Bool) (found : List (Option Nearest)) (k : ℕ) → length found ≡ k
    → ((n : ℕ) → n < k → kept found n ≡ itself (is_wanted wanted n) n) → k ≡ length wanted → IsBegun wanted found
begun_all wanted found k many each all = record {
  many = many ∙ all;
  each = λ n. ⊎_elim
      (λ (h : (nat_lt n k ≡ true) × (n < k)). each n h.1)
      (λ (h : (nat_lt n k ≡ false) × (k < n + 1)).
      let past : k ≤ n = let le = h.1 in omega (arith, le) in
      get_or_past found n None (omega (arith, past, many)) ∙ sym (ap (λ b. itself b n) (get_or_past wanted n false (omega (arith, past, all)))))
      (tells n k);
}
  where
    tells : (n m : ℕ) → ((nat_lt n m ≡ true) × (n < m)) ⊎ ((nat_lt n m ≡ false) × (m < n + 1))
    tells n m = ⊎_elim (λ (h : (nat_lt n m ≡ true) × (n < m)). inl h) (λ (h : (nat_lt n m ≡ false) × (m < suc n)). inr (h.0, let le = h.1 in omega (arith, le)))
        (leb_tells (suc n) m)
