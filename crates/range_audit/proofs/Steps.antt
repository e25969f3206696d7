-- Steps: what loops over the cells keep.
use Rattle.std.proofs.Common.{◌≡◌, ℕ, zero, suc, ◌+◌, ◌<◌, ◌≤◌, ℤ, pos, List, [], ◌∷◌, ◌++◌, length, map, slice_get, Option, option_map, Some, IfSome, Result, IfOk, refl, sym, ap, subst, ◌∙◌, arith, below_more}
use Rattle.std.proofs.lemmas.List.{length_push}
use Rattle.std.proofs.lemmas.Result.{IfOk-weaker}
use Rattle.std.proofs.lemmas.Option.{slice_get_within, get_or_from_slice_get, slice_get-map}
use Rattle.vcp_base.specs.Values.{at}

pub get_there : {X : Type 0} (xs : List X) (i : ℕ) → i < length xs → (x : X) × (slice_get xs i ≡ Some x)
get_there [] i lt = absurd (omega arith)
get_there (x ∷ xs) zero lt = (x, refl)
get_there (x ∷ xs) (suc i) lt = get_there xs i (omega arith)

get_front : {X : Type 0} (xs ys : List X) (i : ℕ) → i < length xs → slice_get (xs ++ ys) i ≡ slice_get xs i
get_front [] ys i lt = absurd (omega arith)
get_front (x ∷ xs) ys zero lt = refl
get_front (x ∷ xs) ys (suc i) lt = get_front xs ys i (omega arith)

pub get_middle : {X : Type 0} (xs : List X) (x : X) (ys : List X) → slice_get (xs ++ x ∷ ys) (length xs) ≡ Some x
get_middle [] x ys = refl
get_middle (z ∷ xs) x ys = get_middle xs x ys

pub map_at : {X : Type 0} (f : X → ℤ) (xs : List X) (i : ℕ) (x : X) → slice_get xs i ≡ Some x → at (map f xs) i ≡ f x
map_at f xs i x e = get_or_from_slice_get (map f xs) i (f x) (pos 0) (slice_get-map f xs i ∙ ap (option_map f) e)

-- what holds of what there is holds of it
pub some_is : {X : Type 0} (P : X → Type 0) (o : Option X) (x : X) → IfSome o P → o ≡ Some x → P x
some_is P o x h is = subst (λ q. IfSome q P) is h

-- what follows from what holds of a value holds of it
pub and_so : {X E : Type 0} {P Q : X → Type 0} (r : Result X E) → IfOk r P → ((x : X) → P x → Q x) → IfOk r Q
and_so {P = P} {Q = Q} r h f = IfOk-weaker r P Q f h

-- what has as many as there are below a number has no more than what has more
pub no_more_than : (k i m : ℕ) → k ≡ i → i < m → k ≤ m
no_more_than k i m e h = omega (arith, e, h)

pub as_many : (k m : ℕ) → k ≡ m → k ≤ m
as_many k m e = omega (arith, e)

-- so many items, and what holds of each at its place
pub record AllAt {X : Type 0} (P : ℕ → X → Type 0) (xs : List X) (count : ℕ) : Type 0 where
  pub many : length xs ≡ count
  pub each : (k : ℕ) (x : X) → slice_get xs k ≡ Some x → P k x

pub none_at : {X : Type 0} (P : ℕ → X → Type 0) (xs : List X) → xs ≡ [] → AllAt P xs 0
none_at P [] none = record { many = refl; each = λ k x there. absurd cc }
none_at P (x ∷ xs) none = absurd cc

pub one_more : {X : Type 0} (P : ℕ → X → Type 0) (xs ys : List X) (x : X) (i : ℕ) → AllAt P xs i → P i x → ys ≡ xs ++ x ∷ [] → AllAt P ys (i + 1)
one_more P xs ys x i all last is =
    let Q : ℕ → Type 0 = λ j. (y : _) → slice_get (xs ++ x ∷ []) j ≡ Some y → P j y in
    let below : (j : ℕ) → j < i → Q j = λ j lt y e. all.each j y (sym (get_front xs (x ∷ []) j (omega (arith, lt, all.many))) ∙ e) in
    let m = subst (λ n. slice_get (xs ++ x ∷ []) n ≡ Some x) all.many (get_middle xs x []) in
    let here : Q i = λ y e. let same : x ≡ y = cc in subst (P i) same last in
    let more : AllAt P (xs ++ x ∷ []) (i + 1) = record {
      many = length_push xs x ∙ ap (λ n. n + 1) all.many;
      each = λ k y there. below_more Q i below here k (omega (arith, slice_get_within (xs ++ x ∷ []) k y there, length_push xs x, all.many)) y there;
    } in
    subst (λ zs. AllAt P zs (i + 1)) (sym is) more
