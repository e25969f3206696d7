-- Lists: what stands at a place of a list, and behind it.
use Rattle.std.proofs.Common.{◌≡◌, ℕ, zero, suc, ◌+◌, ◌<◌, ◌≤◌, All, List, [], ◌∷◌, length, drop, slice_get, Some, refl, ap, sym, ◌∙◌, arith}
use Rattle.std.proofs.lemmas.List.Elements.{All-from_get_or, All-get_or}

pub there_is : {X : Type 0} (xs : List X) (k : ℕ) → k < length xs → (x : X) × (slice_get xs k ≡ Some x)
there_is [] k within = absurd (omega (arith, within))
there_is (x ∷ xs) zero within = (x, refl)
there_is (x ∷ xs) (suc k) within = there_is xs k (omega (arith, within))

pub drop_there : {X : Type 0} (xs : List X) (k : ℕ) (x : X) → slice_get xs k ≡ Some x → drop k xs ≡ x ∷ drop (k + 1) xs
drop_there [] k x there = absurd cc
drop_there (y ∷ xs) zero x there = let same : y ≡ x = cc in ap (λ z. z ∷ xs) same
drop_there (y ∷ xs) (suc k) x there =
    let on : suc k + 1 ≡ suc (k + 1) = omega arith in
    drop_there xs k x there ∙ ap (λ (n : ℕ). x ∷ drop n (y ∷ xs)) (sym on)

pub drop_behind : {X : Type 0} (xs : List X) (k : ℕ) → length xs ≤ k → drop k xs ≡ []
drop_behind [] zero few = refl
drop_behind [] (suc k) few = refl
drop_behind (x ∷ xs) zero few = absurd (omega (arith, few))
drop_behind (x ∷ xs) (suc k) few = drop_behind xs k (omega (arith, few))

-- what holds of each element holds of the first, and of each of the others
pub all_first : {X : Type 0} (P : X → Type 0) (x : X) (xs : List X) → All P (x ∷ xs) → P x
all_first P x xs all = All-get_or P (x ∷ xs) 0 x (omega arith) all

pub all_others : {X : Type 0} (P : X → Type 0) (x : X) (xs : List X) → All P (x ∷ xs) → All P xs
all_others P x xs all = All-from_get_or P xs x (λ i within. All-get_or P (x ∷ xs) (suc i) x (omega (arith, within)) all)
