-- The trees of a list are those of its items.
use Rattle.std.proofs.Common.{◌≡◌, ℕ, suc, ◌+◌, List, ◌∷◌, map, drop, [], refl, ap, ◌∙◌, Some, slice_get, arith}
use Rattle.std.proofs.Math.Seq.{drop-cons}
use Rattle.std.proofs.lemmas.List.{map-append}
use Rattle.std.proofs.lemmas.Option.{slice_get_within, get_or_from_slice_get}
use Rattle.st_tree.specs.Listed.{ListsTrees}

one_more : (i : ℕ) → suc i ≡ i + 1
one_more i = omega arith

pub from_place : {A : Type 0} (xs : List A) (i : ℕ) (x : A) → slice_get xs i ≡ Some x → drop i xs ≡ x ∷ drop (i + 1) xs
from_place xs i x e =
    drop-cons xs i x (slice_get_within xs i x e)
    ∙ ap (λ y. y ∷ drop (suc i) xs) (get_or_from_slice_get xs i x x e)
    ∙ ap (λ n. x ∷ drop n xs) (one_more i)

pub lists_trees : {A B : Type 0} (tree : A → B) → ListsTrees tree
lists_trees tree = record {
  empty = refl;
  appended = λ xs x. map-append tree xs (x ∷ []);
  at = λ xs i x e. ap (map tree) (from_place xs i x e);
}
