-- Lists: what stands at a place of a list, and behind it.
use Rattle.std.proofs.Common.{◌≡◌, ℕ, zero, suc, ◌+◌, ◌<◌, ◌≤◌, Bool, true, false, List, [], ◌∷◌, length, get_or, drop, slice_get, Some, refl, sym, ap, ◌∙◌, arith}
use Rattle.std.proofs.Math.Bool.{beq}
use lib.Pointwise.{pointwise}

pub there_is : {X : Type 0} (xs : List X) (k : ℕ) → k < length xs → (x : X) × (slice_get xs k ≡ Some x)
there_is [] k within = absurd (omega (arith, within))
there_is (x ∷ xs) zero within = (x, refl)
there_is (x ∷ xs) (suc k) within = there_is xs k (omega (arith, within))

pub drop_there : {X : Type 0} (xs : List X) (k : ℕ) (x : X) → slice_get xs k ≡ Some x → drop k xs ≡ x ∷ drop (k + 1) xs
drop_there [] k x there = absurd cc
drop_there (y ∷ xs) zero x there = let same : y ≡ x = cc in ap (λ z. z ∷ xs) same
drop_there (y ∷ xs) (suc k) x there =
    let on : suc k + 1 ≡ suc (k + 1) = omega arith in
    drop_there xs k x there ∙ ap (λ (n : ℕ). x ∷ drop n (y ∷ xs)) (sym on)

pub drop_behind : {X : Type 0} (xs : List X) (k : ℕ) → length xs ≤ k → drop k xs ≡ []
drop_behind [] zero few = refl
drop_behind [] (suc k) few = refl
drop_behind (x ∷ xs) zero few = absurd (omega (arith, few))
drop_behind (x ∷ xs) (suc k) few = drop_behind xs k (omega (arith, few))

pub drop_read : (xs : List ℕ) (k : ℕ) → k < length xs → drop k xs ≡ get_or xs k 0 ∷ drop (k + 1) xs
drop_read [] k within = absurd (omega (arith, within))
drop_read (x ∷ xs) zero within = refl
drop_read (x ∷ xs) (suc k) within =
    let on : suc k + 1 ≡ suc (k + 1) = omega arith in
    drop_read xs k (omega (arith, within)) ∙ ap (λ (n : ℕ). get_or xs k 0 ∷ drop n (x ∷ xs)) (sym on)

pub same_bools : (xs ys : List Bool) → pointwise beq xs ys ≡ true → xs ≡ ys
same_bools [] [] same = refl
same_bools [] (y ∷ ys) same = absurd cc
same_bools (x ∷ xs) [] same = absurd cc
same_bools (true ∷ xs) (true ∷ ys) same = ap (λ (zs : List Bool). true ∷ zs) (same_bools xs ys same)
same_bools (true ∷ xs) (false ∷ ys) same = absurd cc
same_bools (false ∷ xs) (true ∷ ys) same = absurd cc
same_bools (false ∷ xs) (false ∷ ys) same = ap (λ (zs : List Bool). false ∷ zs) (same_bools xs ys same)
