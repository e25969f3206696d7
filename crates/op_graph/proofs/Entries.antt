-- Entries: lists whose entries each fit after those before them, and the first entry that passes a test.
use Rattle.std.proofs.Common.{◌≡◌, ℕ, zero, suc, ◌+◌, ◌<◌, ◌≤◌, ◌==◌, Bool, true, false, cond, List, [], ◌∷◌, ◌++◌, length, slice_get, slice_index_or, All}
use Rattle.std.proofs.Common.{Option, Some, None, refl, sym, ap, subst, ◌∙◌, append_assoc, length-append, arith, nat_le}
use Rattle.std.proofs.lemmas.Bool.{ne_eqb}
use Rattle.std.proofs.lemmas.Bool.Decides.{nat_tests}
use Rattle.std.proofs.lemmas.List.{append-nil}
use Rattle.vcp_base.specs.declared.ty.Ty.{Ty}
use Rattle.op_graph.specs.declared.op.Loaded.{Loaded}
use Rattle.op_graph.specs.Rules.{Each, entry, found, stored_by, cell_entry}
use Rattle.op_graph.specs.declared.rules.Entry.{Entry}

-- one more entry at the end
pub each_push : {X : Type 0} (P : List X → X → Type 0) (before xs : List X) (x : X) → Each P before xs → P (before ++ xs) x → Each P before (xs ++ x ∷ [])
each_push P before [] x h p = (subst (λ b. P b x) (append-nil before) p, tt)
each_push P before (y ∷ xs) x h p = (h.0, each_push P (before ++ y ∷ []) xs x h.1 (subst (λ b. P b x) (sym (append_assoc before (y ∷ []) xs)) p))

-- what follows from P at each place below n holds too
pub each_more : {X : Type 0} (P Q : List X → X → Type 0) (n : ℕ) (before xs : List X) → length before + length xs ≤ n
    → ((b : List X) (x : X) → length b < n → P b x → Q b x) → Each P before xs → Each Q before xs
each_more P Q n before [] le f h = tt
each_more P Q n before (x ∷ xs) le f h = (f before x (omega arith) h.0, each_more P Q n (before ++ x ∷ []) xs (simp length-append (omega arith)) f h.1)

-- the numbers of all entries are below n
abbrev pub Under : {X : Type 0} → (X → ℕ) → ℕ → List X → Type 0
Under f n [] = Unit {0}
Under f n (x ∷ xs) = (f x < n) × Under f n xs

pub each_under : {X : Type 0} (P : List X → X → Type 0) (f : X → ℕ) (n : ℕ) (before xs : List X) → ((b : List X) (x : X) → P b x → f x < n) → Each P before xs
    → Under f n xs
each_under P f n before [] g h = tt
each_under P f n before (x ∷ xs) g h = (g before x h.0, each_under P f n (before ++ x ∷ []) xs g h.1)

under_at : {X : Type 0} (f : X → ℕ) (n : ℕ) (xs : List X) → Under f n xs → (k : ℕ) (d : X) → k < length xs → f (slice_index_or xs k d) < n
under_at f n [] h k d lt = absurd (omega arith)
under_at f n (x ∷ xs) h zero d lt = h.0
under_at f n (x ∷ xs) h (suc k) d lt = under_at f n xs h.1 k d (omega arith)

pub under_all : {X : Type 0} (f : X → ℕ) (n : ℕ) (xs : List X) → Under f n xs → All (λ x. f x < n) xs
under_all f n xs h = λ k d lt. under_at f n xs h k d lt

pub under_get : {X : Type 0} (f : X → ℕ) (n : ℕ) (xs : List X) (i : ℕ) (x : X) → Under f n xs → slice_get xs i ≡ Some x → f x < n
under_get f n [] i x h e = absurd cc
under_get f n (y ∷ xs) zero x h e = let same : y ≡ x = cc in subst (λ z. f z < n) same h.0
under_get f n (y ∷ xs) (suc i) x h e = under_get f n xs i x h.1 e

pub last_of_push : {X : Type 0} (xs : List X) (x d : X) → slice_index_or (xs ++ x ∷ []) (length xs) d ≡ x
last_of_push [] x d = refl
last_of_push (y ∷ xs) x d = last_of_push xs x d

all_last : {X : Type 0} (f : X → ℕ) (z : ℕ) (xs : List X) (x : X) → All (λ w. f w < z) (xs ++ x ∷ []) → f x < z
all_last f z xs x all = subst (λ w. f w < z) (last_of_push xs x x) (all (length xs) x (simp length-append (omega arith)))

-- numbers that rise and are below n are at most n, where any number above those of `before` is at least k
pub rising_count : {X : Type 0} (P : List X → X → Type 0) (f : X → ℕ) (n k : ℕ) (before xs : List X) → ((b : List X) (x : X) → P b x → f x < n)
    → ((b : List X) (x : X) → P b x → All (λ w. f w < f x) b) → ((z : ℕ) → All (λ w. f w < z) before → k ≤ z) → k ≤ n → Each P before xs → k + length xs ≤ n
rising_count P f n k before [] below rises over le h = omega arith
rising_count P f n k before (x ∷ xs) below rises over le h =
    let from : k ≤ f x = over (f x) (rises before x h.0) in
    let lt : f x < n = below before x h.0 in
    let rest : (k + 1) + length xs ≤ n =
    rising_count P f n (k + 1) (before ++ x ∷ []) xs below rises (λ z all. let last : f x < z = all_last f z before x all in omega arith)
    (omega arith) h.1 in
    omega arith

pub other : (a n : ℕ) → a < n → (a == n) ≡ false
other a n lt = ne_eqb a n (λ e. omega arith)

pub eqb_self : (n : ℕ) → (n == n) ≡ true
eqb_self n = grind (arith, nat_tests)

pub le_more : (a n m : ℕ) → nat_le a n ≡ true → n ≤ m → nat_le a m ≡ true
le_more a n m h le = grind (arith, nat_tests)

pub under_none : {X : Type 0} (f : X → ℕ) (t : X → Ty) (n k : ℕ) (xs : List X) → Under f n xs → found (λ x. f x == n) t k xs ≡ None
under_none f t n k [] h = refl
under_none f t n k (x ∷ xs) h = rw (other (f x) n h.0) (under_none f t n (k + 1) xs h.1)

pub found_push : {X : Type 0} (p : X → Bool) (t : X → Ty) (k : ℕ) (xs : List X) (y : X) → p y ≡ false → found p t k (xs ++ y ∷ []) ≡ found p t k xs
found_push p t k [] y e = rw e refl
found_push p t k (x ∷ xs) y e = ap (cond (p x) (Some (entry k (t x)))) (found_push p t (k + 1) xs y e)

found_last_by : {X : Type 0} (t : X → Ty) (k : ℕ) (x : X) (b : Bool) (rest next : Option Entry) (to : Option Entry) → cond b (Some (entry k (t x))) rest ≡ None
    → (rest ≡ None → next ≡ to) → cond b (Some (entry k (t x))) next ≡ to
found_last_by t k x true rest next to h f = absurd cc
found_last_by t k x false rest next to h f = f h

pub found_last : {X : Type 0} (p : X → Bool) (t : X → Ty) (k : ℕ) (xs : List X) (y : X) → found p t k xs ≡ None → p y ≡ true
    → found p t k (xs ++ y ∷ []) ≡ Some (entry (k + length xs) (t y))
found_last p t k [] y h e = rw e (ap (λ n. Some (entry n (t y))) (omega arith))
found_last p t k (x ∷ xs) y h e = found_last_by t k x (p x) _ _ _ h (λ g. found_last p t (k + 1) xs y g e ∙ ap (λ n. Some (entry n (t y))) (omega arith))

pub get_push : {X : Type 0} (xs : List X) (y : X) (i : ℕ) → i < length xs → slice_get (xs ++ y ∷ []) i ≡ slice_get xs i
get_push [] y i lt = absurd (omega arith)
get_push (x ∷ xs) y zero lt = refl
get_push (x ∷ xs) y (suc i) lt = get_push xs y i (omega arith)

pub get_last : {X : Type 0} (xs : List X) (y : X) → slice_get (xs ++ y ∷ []) (length xs) ≡ Some y
get_last [] y = refl
get_last (x ∷ xs) y = get_last xs y

pub get_some : {X : Type 0} (xs : List X) (i : ℕ) → slice_get xs i ≡ None → length xs ≤ i
get_some [] i e = omega arith
get_some (x ∷ xs) zero e = absurd cc
get_some (x ∷ xs) (suc i) e = let h = get_some xs i e in omega arith

pub stored_none : (loads : List Loaded) (n k : ℕ) (xs : List ℕ) → Under (λ x. x) n xs → stored_by loads n k xs ≡ None
stored_none loads n k [] h = refl
stored_none loads n k (x ∷ xs) h = rw (other x n h.0) (stored_none loads n (k + 1) xs h.1)

pub stored_push : (loads : List Loaded) (i k : ℕ) (xs : List ℕ) (y : ℕ) → (y == i) ≡ false → stored_by loads i k (xs ++ y ∷ []) ≡ stored_by loads i k xs
stored_push loads i k [] y e = rw e refl
stored_push loads i k (x ∷ xs) y e = ap (cond (x == i) (cell_entry k (slice_get loads k))) (stored_push loads i (k + 1) xs y e)

pub stored_more : (loads : List Loaded) (c : Loaded) (i k : ℕ) (xs : List ℕ) → k + length xs ≤ length loads
    → stored_by (loads ++ c ∷ []) i k xs ≡ stored_by loads i k xs
stored_more loads c i k [] le = refl
stored_more loads c i k (x ∷ xs) le = rw (get_push loads c k (omega arith), stored_more loads c i (k + 1) xs (omega arith)) refl

pub stored_last : (loads : List Loaded) (n k : ℕ) (xs : List ℕ) → Under (λ x. x) n xs
    → stored_by loads n k (xs ++ n ∷ []) ≡ cell_entry (k + length xs) (slice_get loads (k + length xs))
stored_last loads n k [] h = rw (eqb_self n) (ap (λ m. cell_entry m (slice_get loads m)) (omega arith))
stored_last loads n k (x ∷ xs) h = rw (other x n h.0) (stored_last loads n (k + 1) xs h.1 ∙ ap (λ m. cell_entry m (slice_get loads m)) (omega arith))
