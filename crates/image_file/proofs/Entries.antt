-- Entries: lists whose entries each fit after those before them.
use Rattle.std.proofs.Common.{◌≡◌, ℕ, zero, suc, ◌+◌, ◌<◌, ◌≤◌, ◌==◌, true, List, [], ◌∷◌, ◌++◌, length, slice_get, slice_index_or, All, Some, refl, length-append, arith}
use Rattle.std.proofs.lemmas.Bool.Decides.{nat_tests}
use Rattle.op_graph.specs.Rules.{Each}

-- what follows from P at each place below n holds too
pub each_more : {X : Type 0} (P Q : List X → X → Type 0) (n : ℕ) (before xs : List X) → length before + length xs ≤ n
    → ((b : List X) (x : X) → length b < n → P b x → Q b x) → Each P before xs → Each Q before xs
each_more P Q n before [] le f h = tt
each_more P Q n before (x ∷ xs) le f h = (f before x (omega arith) h.0, each_more P Q n (before ++ x ∷ []) xs (simp length-append (omega arith)) f h.1)

-- the numbers of all entries are below n
abbrev pub Under : {X : Type 0} → (X → ℕ) → ℕ → List X → Type 0
Under f n [] = Unit {0}
Under f n (x ∷ xs) = (f x < n) × Under f n xs

under_at : {X : Type 0} (f : X → ℕ) (n : ℕ) (xs : List X) → Under f n xs → (k : ℕ) (d : X) → k < length xs → f (slice_index_or xs k d) < n
under_at f n [] h k d lt = absurd (omega arith)
under_at f n (x ∷ xs) h zero d lt = h.0
under_at f n (x ∷ xs) h (suc k) d lt = under_at f n xs h.1 k d (omega arith)

pub under_all : {X : Type 0} (f : X → ℕ) (n : ℕ) (xs : List X) → Under f n xs → All (λ x. f x < n) xs
under_all f n xs h = λ k d lt. under_at f n xs h k d lt

pub get_last : {X : Type 0} (xs : List X) (y : X) → slice_get (xs ++ y ∷ []) (length xs) ≡ Some y
get_last [] y = refl
get_last (x ∷ xs) y = get_last xs y

pub eqb_self : (n : ℕ) → (n == n) ≡ true
eqb_self n = grind (arith, nat_tests)
