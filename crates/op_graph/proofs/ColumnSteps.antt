-- ColumnSteps: a list that grows by what each element of another gives.
use Rattle.std.proofs.Common.{◌≡◌, ℕ, ◌+◌, ◌<◌, ◌≤◌, List, [], ◌∷◌, ◌++◌, length, take, map, get_or, sym, ap, subst, ◌∙◌}
use Rattle.std.proofs.lemmas.List.{map_more, take_all}

-- one element more
pub one_more : {X Y : Type 0} (f : X → Y) (xs ys : List X) (i : ℕ) (d : X) (before after : List Y) → xs ≡ ys → i < length xs
    → before ≡ map f (take i ys) → after ≡ before ++ f (get_or xs i d) ∷ [] → after ≡ map f (take (i + 1) ys)
one_more f xs ys i d before after same inside so_far more =
    more ∙ ap (λ zs. zs ++ f (get_or xs i d) ∷ []) (so_far ∙ ap (λ zs. map f (take i zs)) (sym same)) ∙ sym (map_more f xs i d inside)
    ∙ ap (λ zs. map f (take (i + 1) zs)) same

-- all of them
pub all_there : {X Y : Type 0} (f : X → Y) (xs ys : List X) (i : ℕ) (all : List Y) → xs ≡ ys → length xs ≤ i → all ≡ map f (take i ys) → all ≡ map f ys
all_there f xs ys i all same past so_far = so_far ∙ ap (map f) (take_all i ys (subst (λ zs. length zs ≤ i) same past))
