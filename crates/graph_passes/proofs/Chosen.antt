-- Chosen: where the chosen entries of a list stand.
use Rattle.std.proofs.Common.{◌≡◌, ℕ, zero, suc, ◌+◌, ◌<◌, ◌≤◌, ℤ, Bool, true, false, cond, List, [], ◌∷◌, ◌++◌, length, map, slice_get, Some, refl, sym, ap}
use Rattle.std.proofs.Common.{subst, ◌∙◌, arith}
use Rattle.vcp_base.specs.Values.{at}
use Rattle.graph_passes.specs.Part.{below, chosen}

pub at_push : (values : List ℤ) (v : ℤ) (i : ℕ) → i < length values → at (values ++ v ∷ []) i ≡ at values i
at_push [] v i lt = absurd (omega arith)
at_push (x ∷ values) v zero lt = refl
at_push (x ∷ values) v (suc i) lt = at_push values v i (omega arith)

pub at_last : (values : List ℤ) (v : ℤ) → at (values ++ v ∷ []) (length values) ≡ v
at_last [] v = refl
at_last (x ∷ values) v = at_last values v

pub map_at : {X : Type 0} (f : X → ℤ) (xs : List X) (i : ℕ) (x : X) → slice_get xs i ≡ Some x → at (map f xs) i ≡ f x
map_at f [] i x e = absurd cc
map_at f (y ∷ xs) zero x e = let same : y ≡ x = cc in ap f same
map_at f (y ∷ xs) (suc i) x e = map_at f xs i x e

pub get_there : {X : Type 0} (xs : List X) (i : ℕ) → i < length xs → (x : X) × (slice_get xs i ≡ Some x)
get_there [] i lt = absurd (omega arith)
get_there (x ∷ xs) zero lt = (x, refl)
get_there (x ∷ xs) (suc i) lt = get_there xs i (omega arith)

step_up : (choice : ℕ → Bool) (n : ℕ) (b : Bool) → below choice n ≤ cond b (suc (below choice n)) (below choice n)
step_up choice n true = omega arith
step_up choice n false = omega arith

pub below_grows : (choice : ℕ → Bool) (n d : ℕ) → below choice n ≤ below choice (d + n)
below_grows choice n zero = let e : 0 + n ≡ n = omega arith in subst (λ j. below choice n ≤ below choice j) (sym e) (omega arith)
below_grows choice n (suc d) =
    let e : suc d + n ≡ suc (d + n) = omega arith in
    let before = below_grows choice n d in
    let here = step_up choice (d + n) (choice (d + n)) in
    subst (λ j. below choice n ≤ below choice j) (sym e) (omega (arith, before, here))

later_at : {X Y : Type 0} (choice : ℕ → Bool) (f : X → Y) (s d total : ℕ) (x : X) (y : Y) (xs : List X) (b : Bool) →
    below choice (suc s) ≡ cond b (suc (below choice s)) (below choice s) → below choice s + d ≡ total → below choice (suc s) ≤ total →
    ((e : ℕ) → below choice (suc s) + e ≡ total → slice_get (chosen choice f (suc s) xs) e ≡ Some y) →
    slice_get (cond b (f x ∷ chosen choice f (suc s) xs) (chosen choice f (suc s) xs)) d ≡ Some y
later_at choice f s zero total x y xs true one is le rest = absurd (omega (arith, one))
later_at choice f s (suc d) total x y xs true one is le rest = rest d (omega (arith, one))
later_at choice f s d total x y xs false one is le rest = rest d (omega (arith, one))

-- entry i of those that are numbered from s comes to place d, where so many are chosen before it
chosen_from : {X Y : Type 0} (choice : ℕ → Bool) (f : X → Y) (s d i : ℕ) (x : X) (xs : List X) → slice_get xs i ≡ Some x → choice (i + s) ≡ true →
    below choice s + d ≡ below choice (i + s) → slice_get (chosen choice f s xs) d ≡ Some (f x)
chosen_from choice f s d i x [] there picked is = absurd cc
chosen_from choice f s d zero x (y ∷ xs) there picked is =
    let start : 0 + s ≡ s = omega arith in
    let here : choice s ≡ true = subst (λ j. choice j ≡ true) start picked in
    let none : d ≡ 0 = let total : below choice (0 + s) ≡ below choice s = ap (below choice) start in omega (arith, is, total) in
    let same : y ≡ x = cc in
    rw (here, none) (ap (λ z. Some (f z)) same)
chosen_from choice f s d (suc i) x (y ∷ xs) there picked is =
    let next : suc i + s ≡ i + suc s = omega arith in
    let total : below choice s + d ≡ below choice (i + suc s) = is ∙ ap (below choice) next in
    later_at choice f s d (below choice (i + suc s)) y (f x) xs (choice s) refl total (below_grows choice (suc s) i)
    (λ e more. chosen_from choice f (suc s) e i x xs there (subst (λ j. choice j ≡ true) next picked) more)

pub chosen_at : {X Y : Type 0} (choice : ℕ → Bool) (f : X → Y) (i : ℕ) (x : X) (xs : List X) → slice_get xs i ≡ Some x → choice i ≡ true →
    slice_get (chosen choice f 0 xs) (below choice i) ≡ Some (f x)
chosen_at choice f i x xs there picked =
    let same : i + 0 ≡ i = omega arith in
    chosen_from choice f 0 (below choice i) i x xs there (subst (λ j. choice j ≡ true) (sym same) picked)
    (let zero_below : below choice 0 + below choice i ≡ below choice i = omega arith in zero_below ∙ ap (below choice) (sym same))

no_more_by : {X : Type 0} (x : X) (xs ys : List X) (n : ℕ) (b : Bool) → length xs ≤ n → length (cond b (x ∷ xs) xs) ≤ suc n
no_more_by x xs ys n true le = omega arith
no_more_by x xs ys n false le = omega arith

pub chosen_no_more : {X Y : Type 0} (choice : ℕ → Bool) (f : X → Y) (s : ℕ) (xs : List X) → length (chosen choice f s xs) ≤ length xs
chosen_no_more choice f s [] = omega arith
chosen_no_more choice f s (x ∷ xs) = no_more_by (f x) (chosen choice f (suc s) xs) [] (length xs) (choice s) (chosen_no_more choice f (suc s) xs)
