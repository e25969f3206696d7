-- Texts that go on.
use Rattle.std.proofs.Common.{◌≡◌, ℕ, ◌+◌, ◌<◌, List, [], ◌∷◌, ◌++◌, length, take, Some, All, slice_get, flat_map, add-one, subst, sym}
use Rattle.std.proofs.Math.Seq.{take-suc}
use Rattle.std.proofs.lemmas.List.{flat_map_more}
use Rattle.std.proofs.lemmas.List.Elements.{All-get_or}
use Rattle.std.proofs.lemmas.Option.{get_or_from_slice_get, slice_get_within}

take-next : {X : Type 0} (xs : List X) (i : ℕ) (x : X) → slice_get xs i ≡ Some x → take (i + 1) xs ≡ take i xs ++ x ∷ []
take-next xs i x is =
    let below : i < length xs = slice_get_within xs i x is in
    let e = take-suc xs i x below in
    rw (get_or_from_slice_get xs i x x is, ← add-one) at e

-- what holds of each element holds of one
pub all_at : {X : Type 0} (P : X → Type 0) (xs : List X) (i : ℕ) (x : X) → slice_get xs i ≡ Some x → All P xs → P x
all_at P xs i x is all = subst P (get_or_from_slice_get xs i x x is) (All-get_or P xs i x (slice_get_within xs i x is) all)

-- a piece and another
-- the text of one more element
pub flat_map-next : {X : Type 0} (f : X → List ℕ) (front : List ℕ) (xs : List X) (i : ℕ) (x : X) → slice_get xs i ≡ Some x
    → front ++ flat_map f (take (i + 1) xs) ≡ (front ++ flat_map f (take i xs)) ++ f x
flat_map-next f front xs i x is = rw (take-next xs i x is) (sym (flat_map_more f front (take i xs) x))
