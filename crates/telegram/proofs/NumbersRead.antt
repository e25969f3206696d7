-- NumbersRead: the numbers of words, one by one.
use Rattle.std.proofs.Common.{◌≡◌, ℕ, List, [], ◌∷◌, ◌++◌, Option, Some, None, option_map, option_and_then, ℤ, refl, sym, ap, ◌∙◌}
use Rattle.std.proofs.lemmas.List.{append_assoc, append-nil}
use Rattle.vcp_base.specs.Numerals.{integer_of}
use Rattle.vcp_base.specs.Integers.{as_lint}
use Rattle.telegram.specs.Forms.{integers_of}
use Rattle.telegram.specs.Reads.{before}

-- before the first word
nothing_before : (o : Option (List ℤ)) → o ≡ before [] o
nothing_before None = refl
nothing_before (Some vs) = refl

more_if : (vs : List ℤ) (v : ℤ) (o : Option (List ℤ)) → before vs (option_map (λ ws. v ∷ ws) o) ≡ before (vs ++ v ∷ []) o
more_if vs v None = refl
more_if vs v (Some ws) = ap (λ (l : List ℤ). Some l) (sym (append_assoc vs (v ∷ []) ws))

-- one number more
one_more : (vs : List ℤ) (w : List ℕ) (ws : List (List ℕ)) (v : ℤ) → Some v ≡ option_map as_lint (integer_of w)
    → before vs (integers_of (w ∷ ws)) ≡ before (vs ++ v ∷ []) (integers_of ws)
one_more vs w ws v is =
    ap (λ (o : Option ℤ). before vs (option_and_then (λ v. option_map (λ vs. v ∷ vs) (integers_of ws)) o)) (sym is) ∙ more_if vs v (integers_of ws)

-- a word that writes none
no_number : (vs : List ℤ) (w : List ℕ) (ws : List (List ℕ)) → None ≡ option_map as_lint (integer_of w) → before vs (integers_of (w ∷ ws)) ≡ None
no_number vs w ws is = ap (λ (o : Option ℤ). before vs (option_and_then (λ v. option_map (λ vs. v ∷ vs) (integers_of ws)) o)) (sym is)

-- behind the last word
no_words : (vs : List ℤ) → before vs (integers_of []) ≡ Some vs
no_words vs = ap (λ (l : List ℤ). Some l) (append-nil vs)

-- the same, of what a reading keeps

pub read_none : (o : Option (List ℤ)) (vs : List ℤ) → vs ≡ [] → o ≡ before vs o
read_none o vs is = nothing_before o ∙ ap (λ (l : List ℤ). before l o) (sym is)

pub read_more : (o : Option (List ℤ)) (vs us : List ℤ) (w : List ℕ) (ls ws : List (List ℕ)) (v : ℤ) → o ≡ before vs (integers_of ls) → ls ≡ w ∷ ws
    → Some v ≡ option_map as_lint (integer_of w) → us ≡ vs ++ v ∷ [] → o ≡ before us (integers_of ws)
read_more o vs us w ls ws v so_far is number longer =
    so_far ∙ (ap (λ (l : List (List ℕ)). before vs (integers_of l)) is
    ∙ (one_more vs w ws v number ∙ ap (λ (l : List ℤ). before l (integers_of ws)) (sym longer)))

pub read_other : (o : Option (List ℤ)) (vs : List ℤ) (w : List ℕ) (ls ws : List (List ℕ)) → o ≡ before vs (integers_of ls) → ls ≡ w ∷ ws
    → None ≡ option_map as_lint (integer_of w) → o ≡ None
read_other o vs w ls ws so_far is none = so_far ∙ (ap (λ (l : List (List ℕ)). before vs (integers_of l)) is ∙ no_number vs w ws none)

pub read_all : (o : Option (List ℤ)) (vs : List ℤ) (ls : List (List ℕ)) → o ≡ before vs (integers_of ls) → ls ≡ [] → o ≡ Some vs
read_all o vs ls so_far is = so_far ∙ (ap (λ (l : List (List ℕ)). before vs (integers_of l)) is ∙ no_words vs)
