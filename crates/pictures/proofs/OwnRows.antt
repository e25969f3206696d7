-- OwnRows: each box of a column has a row of its own.
use Rattle.std.proofs.Common.{◌≡◌, ◌≢◌, ◌⊎◌, inl, inr, ℕ, zero, suc, ◌+◌, ◌<◌, ◌≤◌, List, [], ◌∷◌, ◌++◌, length, replicate, Some, slice_get, slice_index_or, slice_set, refl, sym, ap, ◌∙◌, arith, length-append}
use Rattle.std.proofs.lemmas.Bool.{cases_order}
use Rattle.std.proofs.lemmas.List.{get_or-set_same, get_or-set_other, get_or-replicate, get_or_past, length-replicate}
use Rattle.pictures.specs.declared.layout.BoxPlace.{BoxPlace}
use Rattle.pictures.specs.Arrangement.{HaveOwnRows}

-- what is known of the next row of each column while places are given: it is below those of the column
pub record IsFilled (next : List ℕ) (places : List BoxPlace) : Type 0 where
  pub under : (i : ℕ) (p : BoxPlace) → slice_get places i ≡ Some p → p.row < slice_index_or next p.column 0
  pub own : HaveOwnRows places
  pub few : (c : ℕ) → slice_index_or next c 0 ≤ length places

-- an element of a list with one behind it
pub last_or : {X : Type 0} (xs : List X) (p q : X) (i : ℕ) → slice_get (xs ++ p ∷ []) i ≡ Some q → (slice_get xs i ≡ Some q) ⊎ ((i ≡ length xs) × (q ≡ p))
last_or [] p q zero e = let same : q ≡ p = cc in inr (refl, same)
last_or [] p q (suc i) e = absurd cc
last_or (x ∷ xs) p q zero e = inl e
last_or (x ∷ xs) p q (suc i) e = elim (last_or xs p q i e) [ inl h ↦ inl h | inr h ↦ inr (ap suc h.0, h.1) ]

-- nothing is an element of the empty list
pub none_at : {X : Type 0} (i : ℕ) (p : X) → slice_get [] i ≡ Some p → ⊥
none_at zero p e = cc
none_at (suc i) p e = cc

zeros : (n c : ℕ) → slice_index_or (replicate n zero) c zero ≡ zero
zeros n c =
    let past : n ≤ c → slice_index_or (replicate n zero) c zero ≡ zero = λ le. get_or_past (replicate n zero) c zero (rw (length-replicate n zero) le) in
    elim (cases_order c n) [ inl e ↦ past (omega (arith, e)) | inr (inl l) ↦ get_or-replicate n c zero zero l | inr (inr l) ↦ past (omega (arith, l)) ]

pub begun : (n : ℕ) → IsFilled (replicate n 0) []
begun n = record {
  under = λ i p e. absurd (none_at i p e);
  own = λ i j p q e f ne same. absurd (none_at i p e);
  few = λ c. omega (arith, zeros n c);
}

-- the next rows where the last box of a column stands in this row
abbrev pub raised : List ℕ → ℕ → ℕ → List ℕ
raised next c row = slice_set next c (row + 1)

changed : (next : List ℕ) (c row d : ℕ) → c < length next
    → ((d ≡ c) × (slice_index_or (raised next c row) d 0 ≡ row + 1))
    ⊎ ((d ≢ c) × (slice_index_or (raised next c row) d 0 ≡ slice_index_or next d 0))
changed next c row d lt =
    elim (cases_order d c) [
      | inl e ↦ inl (e, ap (λ k. slice_index_or (raised next c row) k 0) e ∙ get_or-set_same next c (row + 1) 0 lt)
      | inr (inl l) ↦ inr ((λ e. omega (arith, l, e)), get_or-set_other next c d (row + 1) 0 (λ e. omega (arith, l, e)))
      | inr (inr l) ↦ inr ((λ e. omega (arith, l, e)), get_or-set_other next c d (row + 1) 0 (λ e. omega (arith, l, e)))
    ]

grows : (next : List ℕ) (c row d : ℕ) → c < length next → slice_index_or next c 0 ≤ row
    → slice_index_or next d 0 ≤ slice_index_or (raised next c row) d 0
grows next c row d lt below =
    elim (changed next c row d lt) [
      | inl h ↦ let at : slice_index_or next d 0 ≡ slice_index_or next c 0 = ap (λ k. slice_index_or next k 0) h.0 in omega (arith, at, h.1, below)
      | inr h ↦ omega (arith, h.1)
    ]

few_more : (next : List ℕ) (c row d n : ℕ) → c < length next → row ≤ n → slice_index_or next d 0 ≤ n
    → slice_index_or (raised next c row) d 0 ≤ n + 1
few_more next c row d n lt first second = elim (changed next c row d lt) [ inl h ↦ omega (arith, first, h.1) | inr h ↦ omega (arith, second, h.1) ]

-- a row above the next one of its column
other_row : (next : List ℕ) (p q : BoxPlace) → p.row < slice_index_or next p.column 0 → p.column ≡ q.column → slice_index_or next q.column 0 ≤ q.row
    → p.row ≢ q.row
other_row next p q lt same is = λ e.
    let at : slice_index_or next p.column 0 ≡ slice_index_or next q.column 0 = ap (λ k. slice_index_or next k 0) same in
    omega (arith, lt, at, is, e)

module _ (next : List ℕ) (places : List BoxPlace) (p : BoxPlace) (filled : IsFilled next places) (inside : p.column < length next)
    (below : slice_index_or next p.column 0 ≤ p.row) (few : p.row ≤ length places) where
  below_last : (q : BoxPlace) → q ≡ p → slice_index_or next q.column 0 ≤ q.row
  below_last q e = rw e below

  own_more : HaveOwnRows (places ++ p ∷ [])
  own_more i j a b e f ne same =
      elim (last_or places p a i e) [
        | inl h ↦
            elim (last_or places p b j f) [
              | inl k ↦ filled.own i j a b h k ne same
              | inr k ↦ other_row next a b (filled.under i a h) same (below_last b k.1)
            ]
        | inr h ↦
            elim (last_or places p b j f) [
              | inl k ↦ λ is. other_row next b a (filled.under j b k) (sym same) (below_last a h.1) (sym is)
              | inr k ↦ absurd (ne (h.0 ∙ sym k.0))
            ]
      ]

  under_more : (i : ℕ) (a : BoxPlace) → slice_get (places ++ p ∷ []) i ≡ Some a → a.row < slice_index_or (raised next p.column p.row) a.column 0
  under_more i a e =
      elim (last_or places p a i e) [
        | inl h ↦ omega (arith, filled.under i a h, grows next p.column p.row a.column inside below)
        | inr h ↦
            let top : slice_index_or (raised next p.column p.row) p.column 0 ≡ p.row + 1 = get_or-set_same next p.column (p.row + 1) 0 inside in
            rw h.1 (omega (arith, top))
      ]

  pub filled_more : IsFilled (raised next p.column p.row) (places ++ p ∷ [])
  filled_more = record {
    under = under_more;
    own = own_more;
    few = λ d.
        let count : length (places ++ p ∷ []) ≡ length places + 1 = simp length-append refl in
        rw count (few_more next p.column p.row d (length places) inside few (filled.few d));
  }

-- the row of a box is below the number of them
pub below_count : (next : List ℕ) (places : List BoxPlace) → IsFilled next places → (k : ℕ) (p : BoxPlace) → slice_get places k ≡ Some p → p.row ≤ length places
below_count next places filled k p there = omega (arith, filled.under k p there, filled.few p.column)
