-- Listed: the trees of a list of nodes, item by item.
use Rattle.std.specs.Prelude.{◌≡◌, ℕ, ◌+◌, List, [], ◌∷◌, ◌++◌, map, drop, Some, slice_get}

-- the trees of a list: none of none, one more where an item is appended, and from each place on that of the item there comes first
pub record ListsTrees {A B : Type 0} (tree : A → B) : Type 0 where
  pub empty : map tree [] ≡ []
  pub appended : (xs : List A) (x : A) → map tree (xs ++ x ∷ []) ≡ map tree xs ++ tree x ∷ []
  pub at : (xs : List A) (i : ℕ) (x : A) → slice_get xs i ≡ Some x → map tree (drop i xs) ≡ tree x ∷ map tree (drop (i + 1) xs)
