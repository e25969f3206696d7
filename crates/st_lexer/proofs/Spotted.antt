-- The spot behind one byte more.
use Rattle.std.proofs.Common.{◌≡◌, ℕ, ◌+◌, Bool, false, cond, not, List, [], ◌∷◌, ◌++◌, sym, ap, arith, reverse}
use Rattle.std.specs.Prelude.{◌==◌}
use Rattle.std.specs.List.{prefix_len, count_by}
use Rattle.std.proofs.lemmas.List.{reverse-append}
use Rattle.std.proofs.lemmas.List.Sums.{sum_by-append}
use Rattle.std.proofs.lemmas.Bool.Decides.{nat_tests}
use Rattle.vcp_base.specs.declared.spot.Spot.{Spot}
use Rattle.st_lexer.specs.Spots.{is_lf, is_not_lf, spot_after}

count-snoc : (p : ℕ → Bool) (s : List ℕ) (b : ℕ) → count_by p (s ++ b ∷ []) ≡ count_by p s + (0 + cond (p b) 1 0)
count-snoc p s b = sum_by-append (λ x. cond (p x) 1 0) s (b ∷ [])

last-len : (p : ℕ → Bool) (s : List ℕ) (b : ℕ) → prefix_len p (reverse (s ++ b ∷ [])) ≡ cond (p b) (1 + prefix_len p (reverse s)) 0
last-len p s b = ap (λ (l : List ℕ). prefix_len p l) (reverse-append s (b ∷ []))

pub behind-lf : (spot : Spot) (before : List ℕ) (b : ℕ) → spot ≡ spot_after before → b ≡ 10
    → record { line = spot.line + 1; col = 1 } ≡ spot_after (before ++ b ∷ [])
unfolding spot_after
behind-lf spot before b e h =
    let n : 1 + count_by is_lf (before ++ b ∷ []) ≡ spot.line + 1 =
    omega (arith, count-snoc is_lf before b, ap {B = ℕ} (λ k. cond (is_lf k) 1 0) h, ap (λ (x : Spot). x.line) e) in
    let m : 1 + prefix_len is_not_lf (reverse (before ++ b ∷ [])) ≡ 1 =
    omega (arith, last-len is_not_lf before b, ap {B = ℕ} (λ k. cond (is_not_lf k) (1 + prefix_len is_not_lf (reverse before)) 0) h) in
    λ i. record { line = sym n i; col = sym m i }

pub behind-other : (spot : Spot) (before : List ℕ) (b : ℕ) → spot ≡ spot_after before → (b ≡ 10 → ⊥)
    → record { line = spot.line; col = spot.col + 1 } ≡ spot_after (before ++ b ∷ [])
unfolding spot_after
behind-other spot before b e h =
    let f : (b == 10) ≡ false = grind (arith, nat_tests) in
    let n : 1 + count_by is_lf (before ++ b ∷ []) ≡ spot.line =
    omega (arith, count-snoc is_lf before b, ap {B = ℕ} (λ t. cond t 1 0) f, ap (λ (x : Spot). x.line) e) in
    let m : 1 + prefix_len is_not_lf (reverse (before ++ b ∷ [])) ≡ spot.col + 1 =
    omega (
      arith,
      last-len is_not_lf before b,
      ap {B = ℕ} (λ t. cond (not t) (1 + prefix_len is_not_lf (reverse before)) 0) f,
      ap
          (λ (x : Spot). x.col) e,
    ) in
    λ i. record { line = sym n i; col = sym m i }
