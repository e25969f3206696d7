-- Walks: a walk over entries whose operations rise finds what a search from the front finds.
use Rattle.std.proofs.Common.{◌≡◌, ℕ, zero, suc, ◌+◌, ◌<◌, ◌≤◌, ◌==◌, Bool, true, false, cond, List, [], ◌∷◌, ◌++◌, length, slice_get, slice_index_or, All}
use Rattle.std.proofs.Common.{Some, None, refl, ap, subst, ◌∙◌, arith, nat_lt, length-append}
use Rattle.std.proofs.lemmas.Bool.Decides.{nat_tests}
use Rattle.vcp_base.specs.declared.ty.Ty.{Ty}
use Rattle.op_graph.specs.declared.op.Loaded.{Loaded}
use Rattle.op_graph.specs.declared.op.Outlet.{Outlet}
use Rattle.op_graph.specs.Rules.{Each, entry, found, stored_by, cell_entry, OutputFits, LoadFits, StoreFits}
use Rattle.op_graph.specs.Walk.{passed, is_of, entry_at, walked_to, store_at, stored_to, next_passed}
use Rattle.op_graph.proofs.Entries.{each_more, other}

-- the numbers of all entries are above n
abbrev Over : {X : Type 0} → (X → ℕ) → ℕ → List X → Type 0
Over f n [] = Unit {0}
Over f n (x ∷ xs) = (n < f x) × Over f n xs

-- the numbers rise
abbrev Sorted : {X : Type 0} → (X → ℕ) → List X → Type 0
Sorted f [] = Unit {0}
Sorted f (x ∷ xs) = Over f (f x) xs × Sorted f xs

index_push : {X : Type 0} (xs : List X) (y : X) (i : ℕ) (d : X) → i < length xs → slice_index_or (xs ++ y ∷ []) i d ≡ slice_index_or xs i d
index_push [] y i d lt = absurd (omega arith)
index_push (x ∷ xs) y zero d lt = refl
index_push (x ∷ xs) y (suc i) d lt = index_push xs y i d (omega arith)

index_last : {X : Type 0} (xs : List X) (y d : X) → slice_index_or (xs ++ y ∷ []) (length xs) d ≡ y
index_last [] y d = refl
index_last (x ∷ xs) y d = index_last xs y d

-- each entry is above those before it
abbrev Rises : {X : Type 0} → (X → ℕ) → List X → X → Type 0
Rises f before x = All (λ w. f w < f x) before

over_of : {X : Type 0} (f : X → ℕ) (before xs : List X) (k : ℕ) (y : X) → k < length before → slice_index_or before k y ≡ y → Each (Rises f) before xs
    → Over f (f y) xs
over_of f before [] k y lt is h = tt
over_of f before (x ∷ xs) k y lt is h = (
  subst (λ w. f w < f x) is (h.0 k y lt),
  over_of f (before ++ x ∷ []) xs k y (simp length-append (omega arith)) (index_push before x k y lt ∙ is) h.1,
)

sorted_of : {X : Type 0} (f : X → ℕ) (before xs : List X) → Each (Rises f) before xs → Sorted f xs
sorted_of f before [] h = tt
sorted_of f before (x ∷ xs) h =
    (over_of f (before ++ x ∷ []) xs (length before) x (simp length-append (omega arith)) (index_last before x x) h.1, sorted_of f (before ++ x ∷ []) xs h.1)

over_less : {X : Type 0} (f : X → ℕ) (m n : ℕ) (xs : List X) → m ≤ n → Over f n xs → Over f m xs
over_less f m n [] le h = tt
over_less f m n (x ∷ xs) le h = (omega (arith, le, h.0), over_less f m n xs le h.1)

apart : (a i : ℕ) → i < a → (a == i) ≡ false
apart a i lt = grind (arith, nat_tests)

found_none : {X : Type 0} (f : X → ℕ) (t : X → Ty) (i k : ℕ) (xs : List X) → Over f i xs → found (λ x. f x == i) t k xs ≡ None
found_none f t i k [] h = refl
found_none f t i k (x ∷ xs) h = rw (apart (f x) i h.0) (found_none f t i (k + 1) xs h.1)

none_passed : {X : Type 0} (f : X → ℕ) (i : ℕ) (xs : List X) → Over f i xs → passed f (i + 1) xs ≡ 0
none_passed f i [] h = refl
none_passed f i (x ∷ xs) h = let no : nat_lt (f x) (i + 1) ≡ false = let lt = h.0 in grind (arith, nat_tests) in rw no refl

next_get : {X : Type 0} (x : X) (xs : List X) (n : ℕ) → slice_get (x ∷ xs) (n + 1) ≡ slice_get xs n
next_get x xs n = let one_more : n + 1 ≡ suc n = omega arith in ap (slice_get (x ∷ xs)) one_more

-- ---- what is found

-- at the first entry that is not passed
here_by : {X : Type 0} (f : X → ℕ) (t : X → Ty) (i k : ℕ) (x : X) (xs : List X) (b : Bool) → (f x == i) ≡ b → i ≤ f x → Over f (f x) xs
    → cond b (Some (entry k (t x))) (found (λ y. f y == i) t (k + 1) xs) ≡ cond b (Some (entry k (t x))) None
here_by f t i k x xs true is le over = refl
here_by f t i k x xs false is le over = found_none f t i (k + 1) xs (over_less f i (f x) xs le over)

found_by : {X : Type 0} (f : X → ℕ) (t : X → Ty) (i k : ℕ) (x : X) (xs : List X) (b : Bool) → nat_lt (f x) i ≡ b → Over f (f x) xs →
    found (λ y. f y == i) t (k + 1) xs ≡ entry_at f t i ((k + 1) + passed f i xs) (slice_get xs (passed f i xs)) →
    found (λ y. f y == i) t k (x ∷ xs) ≡ entry_at f t i (k + cond b (passed f i xs + 1) 0) (slice_get (x ∷ xs) (cond b (passed f i xs + 1) 0))
found_by f t i k x xs true is over next =
    let lt : f x < i = grind (arith, nat_tests) in
    let more : (k + 1) + passed f i xs ≡ k + (passed f i xs + 1) = omega arith in
    let there : slice_get (x ∷ xs) (passed f i xs + 1) ≡ slice_get xs (passed f i xs) = next_get x xs (passed f i xs) in
    rw (other (f x) i lt, there) (next ∙ ap (λ n. entry_at f t i n (slice_get xs (passed f i xs))) more)
found_by f t i k x xs false is over next =
    let le : i ≤ f x = grind (arith, nat_tests) in
    here_by f t i k x xs (f x == i) refl le over ∙ ap (λ n. cond (f x == i) (Some (entry n (t x))) None) (omega arith)

found_walk : {X : Type 0} (f : X → ℕ) (t : X → Ty) (i k : ℕ) (xs : List X) → Sorted f xs
    → found (λ x. f x == i) t k xs ≡ entry_at f t i (k + passed f i xs) (slice_get xs (passed f i xs))
found_walk f t i k [] h = refl
found_walk f t i k (x ∷ xs) h = found_by f t i k x xs (nat_lt (f x) i) refl h.0 (found_walk f t i (k + 1) xs h.1)

pub walk_finds : {X : Type 0} (f : X → ℕ) (t : X → Ty) (i : ℕ) (xs : List X) → Each (Rises f) [] xs → found (λ x. f x == i) t 0 xs ≡ walked_to f t i xs
walk_finds f t i xs h = found_walk f t i 0 xs (sorted_of f [] xs h) ∙ ap (λ n. entry_at f t i n (slice_get xs (passed f i xs))) (omega arith)

-- ---- what is found of a STORE

stored_none : (loads : List Loaded) (i k : ℕ) (ns : List ℕ) → Over (λ n. n) i ns → stored_by loads i k ns ≡ None
stored_none loads i k [] h = refl
stored_none loads i k (n ∷ ns) h = rw (apart n i h.0) (stored_none loads i (k + 1) ns h.1)

store_here : (loads : List Loaded) (i k n : ℕ) (ns : List ℕ) (b : Bool) → i ≤ n → Over (λ m. m) n ns
    → cond b (cell_entry k (slice_get loads k)) (stored_by loads i (k + 1) ns) ≡ cond b (cell_entry k (slice_get loads k)) None
store_here loads i k n ns true le over = refl
store_here loads i k n ns false le over = stored_none loads i (k + 1) ns (over_less (λ m. m) i n ns le over)

store_found : (loads : List Loaded) (i k n : ℕ) (ns : List ℕ) (b : Bool) → nat_lt n i ≡ b → Over (λ m. m) n ns →
    stored_by loads i (k + 1) ns ≡ store_at loads i ((k + 1) + passed (λ m. m) i ns) (slice_get ns (passed (λ m. m) i ns)) →
    stored_by loads i k (n ∷ ns) ≡ store_at loads i (k + cond b (passed (λ m. m) i ns + 1) 0) (slice_get (n ∷ ns) (cond b (passed (λ m. m) i ns + 1) 0))
store_found loads i k n ns true is over next =
    let lt : n < i = grind (arith, nat_tests) in
    let more : (k + 1) + passed (λ m. m) i ns ≡ k + (passed (λ m. m) i ns + 1) = omega arith in
    let there : slice_get (n ∷ ns) (passed (λ m. m) i ns + 1) ≡ slice_get ns (passed (λ m. m) i ns) = next_get n ns (passed (λ m. m) i ns) in
    rw (other n i lt, there) (next ∙ ap (λ j. store_at loads i j (slice_get ns (passed (λ m. m) i ns))) more)
store_found loads i k n ns false is over next =
    let le : i ≤ n = grind (arith, nat_tests) in
    store_here loads i k n ns (n == i) le over ∙ ap (λ j. cond (n == i) (cell_entry j (slice_get loads j)) None) (omega arith)

store_walk : (loads : List Loaded) (i k : ℕ) (ns : List ℕ) → Sorted (λ n. n) ns
    → stored_by loads i k ns ≡ store_at loads i (k + passed (λ n. n) i ns) (slice_get ns (passed (λ n. n) i ns))
store_walk loads i k [] h = refl
store_walk loads i k (n ∷ ns) h = store_found loads i k n ns (nat_lt n i) refl h.0 (store_walk loads i (k + 1) ns h.1)

pub walk_finds_store : (loads : List Loaded) (i : ℕ) (ns : List ℕ) → Each (Rises (λ n. n)) [] ns → stored_by loads i 0 ns ≡ stored_to loads i ns
walk_finds_store loads i ns h = store_walk loads i 0 ns (sorted_of (λ n. n) [] ns h)
    ∙ ap (λ j. store_at loads i j (slice_get ns (passed (λ n. n) i ns))) (omega arith)

-- ---- where the walk goes

pub walk_begins : {X : Type 0} (f : X → ℕ) (xs : List X) → passed f 0 xs ≡ 0
walk_begins f [] = refl
walk_begins f (x ∷ xs) = let no : nat_lt (f x) 0 ≡ false = grind (arith, nat_tests) in rw no refl

next_here : {X : Type 0} (f : X → ℕ) (i : ℕ) (x : X) (xs : List X) (b : Bool) → (f x == i) ≡ b → i ≤ f x → Over f (f x) xs
    → passed f (i + 1) (x ∷ xs) ≡ cond b 1 0
next_here f i x xs true is le over =
    let lt : nat_lt (f x) (i + 1) ≡ true = grind (arith, nat_tests) in
    rw lt (ap (λ n. n + 1) (none_passed f i xs (over_less f i (f x) xs le over)))
next_here f i x xs false is le over = let no : nat_lt (f x) (i + 1) ≡ false = grind (arith, nat_tests) in rw no refl

next_by : {X : Type 0} (f : X → ℕ) (i : ℕ) (x : X) (xs : List X) (b : Bool) → nat_lt (f x) i ≡ b → Over f (f x) xs →
    passed f (i + 1) xs ≡ cond (is_of f i (slice_get xs (passed f i xs))) (passed f i xs + 1) (passed f i xs) →
    passed f (i + 1) (x ∷ xs) ≡ cond (is_of f i (slice_get (x ∷ xs) (cond b (passed f i xs + 1) 0))) (cond b (passed f i xs + 1) 0 + 1)
    (cond b (passed f i xs + 1) 0)
next_by f i x xs true is over next =
    let lt : nat_lt (f x) (i + 1) ≡ true = grind (arith, nat_tests) in
    let there : slice_get (x ∷ xs) (passed f i xs + 1) ≡ slice_get xs (passed f i xs) = next_get x xs (passed f i xs) in
    rw (lt, there) (ap (λ n. n + 1) next ∙ one_more (is_of f i (slice_get xs (passed f i xs))) (passed f i xs))
  where
    one_more : (b : Bool) (n : ℕ) → cond b (n + 1) n + 1 ≡ cond b ((n + 1) + 1) (n + 1)
    one_more true n = refl
    one_more false n = refl
next_by f i x xs false is over next = let le : i ≤ f x = grind (arith, nat_tests) in next_here f i x xs (f x == i) refl le over

next_walk : {X : Type 0} (f : X → ℕ) (i : ℕ) (xs : List X) → Sorted f xs → passed f (i + 1) xs ≡ next_passed f i xs
next_walk f i [] h = refl
next_walk f i (x ∷ xs) h = next_by f i x xs (nat_lt (f x) i) refl h.0 (next_walk f i xs h.1)

pub walk_goes_on : {X : Type 0} (f : X → ℕ) (i : ℕ) (xs : List X) → Each (Rises f) [] xs → passed f (i + 1) xs ≡ next_passed f i xs
walk_goes_on f i xs h = next_walk f i xs (sorted_of f [] xs h)

-- ---- the lists of a graph rise

pub outputs_rise : (names n : ℕ) (xs : List Outlet) → Each (OutputFits names n) [] xs → Each (Rises (λ (o : Outlet). o.op)) [] xs
outputs_rise names n xs h = each_more (OutputFits names n) (Rises (λ (o : Outlet). o.op)) (length xs) [] xs (omega arith) (λ b x lt g. g.operation_rises) h

pub loads_rise : (names n : ℕ) (xs : List Loaded) → Each (LoadFits names n) [] xs → Each (Rises (λ (l : Loaded). l.load)) [] xs
loads_rise names n xs h = each_more (LoadFits names n) (Rises (λ (l : Loaded). l.load)) (length xs) [] xs (omega arith) (λ b x lt g. g.load_rises) h

pub stores_rise : (loads : List Loaded) (n : ℕ) (xs : List ℕ) → Each (StoreFits loads n) [] xs → Each (Rises (λ (m : ℕ). m)) [] xs
stores_rise loads n xs h = each_more (StoreFits loads n) (Rises (λ (m : ℕ). m)) (length xs) [] xs (omega arith) (λ b x lt g. g.store_rises) h
