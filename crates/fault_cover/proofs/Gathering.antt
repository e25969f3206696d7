-- Gathering: a list that a loop makes of another, element by element.
use Rattle.std.proofs.Common.{◌≡◌, ℕ, zero, suc, ◌+◌, ◌≤◌, List, true, [], ◌∷◌, ◌++◌, length, map, drop, slice_get, Some, ap, sym, ◌∙◌, refl, append_assoc, arith}
use Rattle.std.proofs.lemmas.List.{append-nil, drop_all, length-map}
use Rattle.std.proofs.lemmas.Option.{get_or_from_slice_get, slice_get_within}
use Rattle.std.proofs.Math.Seq.{drop-cons}
use Rattle.op_graph.specs.Lists.{Lists}
use Rattle.fault_sites.specs.Readings.{AreReadings as AreReadingsOf}
use Rattle.fault_cover.specs.declared.starts.Start.{Start}
use Rattle.fault_cover.specs.Beginnings.{AreReadings, starts_of}
use Rattle.fault_cover.specs.Sources.{Reading}

pub front_of : {X : Type 0} (xs : List X) (i : ℕ) (x : X) → slice_get xs i ≡ Some x → drop i xs ≡ x ∷ drop (suc i) xs
front_of xs i x e = drop-cons xs i x (slice_get_within xs i x e) ∙ ap (λ y. y ∷ drop (suc i) xs) (get_or_from_slice_get xs i x x e)

pub made_none : {X Y : Type 0} (make : List X → List Y) (xs : List X) → make (drop 0 xs) ≡ make xs
made_none make [] = refl
made_none make (x ∷ xs) = refl

pub made_more : {X Y : Type 0} (make : List X → List Y) (xs : List X) (i : ℕ) (x : X) (y : Y) (done total : List Y) → slice_get xs i ≡ Some x
    → ((rest : List X) → make (x ∷ rest) ≡ y ∷ make rest) → done ++ make (drop i xs) ≡ total → (done ++ y ∷ []) ++ make (drop (i + 1) xs) ≡ total
made_more make xs i x y done total there cons was =
    let next : i + 1 ≡ suc i = omega arith in
    append_assoc done (y ∷ []) (make (drop (i + 1) xs))
    ∙ (ap (λ n. done ++ y ∷ make (drop n xs)) next
    ∙ (ap (λ ys. done ++ ys) (sym (ap make (front_of xs i x there) ∙ cons (drop (suc i) xs))) ∙ was))

pub made_all : {X Y : Type 0} (make : List X → List Y) (xs : List X) (i : ℕ) (done total : List Y) → length xs ≤ i → make [] ≡ []
    → done ++ make (drop i xs) ≡ total → done ≡ total
made_all make xs i done total past none was =
    sym (ap (λ ys. done ++ ys) (ap make (drop_all i xs past) ∙ none) ∙ append-nil done) ∙ was

-- ---- the readings of each word

there_of : {X Y : Type 0} (f : X → Y) (xs : List X) (k : ℕ) (y : Y) → slice_get (map f xs) k ≡ Some y → (x : X) × (slice_get xs k ≡ Some x) × (f x ≡ y)
there_of f [] k y e = absurd cc
there_of f (x ∷ xs) zero y e = (x, refl, cc)
there_of f (x ∷ xs) (suc k) y e = there_of f xs k y e

pub are_readings : (g : Lists) (by_word : List (List Reading)) (starts : List (List Start)) → AreReadingsOf g true by_word
    → starts ≡ map (starts_of g.profile) by_word → AreReadings g starts
are_readings g by_word starts are is = record {
  many = ap length is ∙ (length-map by_word (starts_of g.profile) ∙ are.many);
  each = λ k s there.
      let x = there_of (starts_of g.profile) by_word k s (sym (ap (λ xs. slice_get xs k) is) ∙ there) in
      sym x.2 ∙ ap (starts_of g.profile) (are.each k x.0 x.1);
}
