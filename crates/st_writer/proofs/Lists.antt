-- The lexemes of a list of items, each by its place, and what a loop over the items has written.
use Rattle.std.proofs.Common.{◌≡◌, ℕ, zero, suc, ◌+◌, ◌<◌, ◌≤◌, List, [], ◌∷◌, ◌++◌, length, get_or, take, arith, sym, ap, ◌∙◌}
use Rattle.std.proofs.lemmas.List.{append_assoc, append-nil, take_all}
use Rattle.st_writer.specs.Adds.{Adds}
use Rattle.st_writer.specs.Lexemes.{Lexeme}
use Rattle.st_writer.specs.declared.writer.Writer.{Writer}
use Rattle.st_writer.proofs.Added.{and_then, same}

-- the lexemes that f gives for each item and its place, in order
abbrev pub all : {X : Type 0} → (ℕ → X → List Lexeme) → List X → List Lexeme
all f [] = []
all f (x ∷ xs) = f 0 x ++ all (λ i. f (suc i)) xs

-- the first i items, and one more
all-more : {X : Type 0} (f : ℕ → X → List Lexeme) (xs : List X) (i : ℕ) (d : X) → i < length xs
    → all f (take (suc i) xs) ≡ all f (take i xs) ++ f i (get_or xs i d)
all-more f [] i d h = absurd (omega arith)
all-more f (x ∷ xs) zero d h = append-nil (f 0 x)
all-more f (x ∷ xs) (suc i) d h =
    ap (λ (t : List Lexeme). f 0 x ++ t) (all-more (λ i. f (suc i)) xs i d (omega arith)) ∙ sym (append_assoc (f 0 x) _ _)

-- the turn of a loop for item i
pub turn : {X : Type 0} {a b c : Writer} (f : ℕ → X → List Lexeme) (xs : List X) (i : ℕ) (x : X) → i < length xs → get_or xs i x ≡ x
    → Adds a b (all f (take i xs)) → Adds b c (f i x) → Adds a c (all f (take (i + 1) xs))
turn f xs i x h e so_far one =
    let more : i + 1 ≡ suc i = omega arith in
    same (ap (λ y. all f (take i xs) ++ f i y) (sym e) ∙ sym (all-more f xs i x h) ∙ ap (λ k. all f (take k xs)) (sym more)) (and_then so_far one)

-- the end of a loop
pub ends : {X : Type 0} {a b : Writer} (f : ℕ → X → List Lexeme) (xs : List X) (i : ℕ) (ys : List Lexeme) → all f xs ≡ ys → length xs ≤ i
    → Adds a b (all f (take i xs)) → Adds a b ys
ends f xs i ys e h so_far = same (ap (all f) (take_all i xs h) ∙ e) so_far
