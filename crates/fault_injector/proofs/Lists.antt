-- Lists: rows by their places.
use Rattle.std.proofs.Common.{◌≡◌, ◌≤◌, ℕ, zero, suc, All, List, [], ◌∷◌, length, drop, slice_get, Some, ℤ, refl, subst, arith}
use Rattle.std.proofs.lemmas.List.Elements.{All-get_or}
use Rattle.std.proofs.lemmas.Option.{get_or_from_slice_get, slice_get_within}

pub drop_all : {X : Type 0} (xs : List X) (k : ℕ) → length xs ≤ k → drop k xs ≡ []
drop_all [] zero h = refl
drop_all [] (suc k) h = refl
drop_all (x ∷ xs) zero h = absurd (omega (arith, h))
drop_all (x ∷ xs) (suc k) h = drop_all xs k (omega (arith, h))

-- a row that is there has the width of all
pub width_at : (rows : List (List ℤ)) (n i : ℕ) (row : List ℤ) → All (λ row. length row ≡ n) rows → slice_get rows i ≡ Some row → length row ≡ n
width_at rows n i row all there =
    subst (λ (r : List ℤ). length r ≡ n) (get_or_from_slice_get rows i row row there)
    (All-get_or (λ (r : List ℤ). length r ≡ n) rows i row (slice_get_within rows i row there) all)
