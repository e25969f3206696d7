-- PlaceLaws: where a name stands among others.
use Rattle.std.proofs.Common.{◌≡◌, ℕ, zero, suc, ◌-◌, ◌≤◌, ◌++◌, List, [], ◌∷◌, length, slice_get, map, option_map, Option, Some, None, refl, sym, ap, ◌∙◌}
use Rattle.std.proofs.Common.{subst, arith, append_assoc, append-nil}
use Rattle.vcp_base.specs.declared.spot.Spot.{Spot}
use Rattle.std.proofs.lemmas.List.{length-map}
use Rattle.st_tree.specs.declared.program.Declared.{Declared}
use Rattle.st_tree.specs.ProgramTree.{DeclaredTree}
use Rattle.st_tree.specs.ProgramViews.{declared_tree}
use Rattle.st_types.specs.Places.{IsAt, IsAmong, IsAfter}
use Rattle.st_types.proofs.ExprLaws.{none-some, some-none}

-- the front of a list keeps its places
pub front-place : {X : Type 0} (xs ys : List X) (i : ℕ) (x : X) → slice_get xs i ≡ Some x → slice_get (xs ++ ys) i ≡ Some x
front-place [] ys i x h = absurd (none-some x h)
front-place (z ∷ xs) ys zero x h = h
front-place (z ∷ xs) ys (suc i) x h = front-place xs ys i x h

-- beyond the front, places count on in the rest
pub back-place : {X : Type 0} (xs ys : List X) (i : ℕ) → slice_get xs i ≡ None → slice_get (xs ++ ys) i ≡ slice_get ys (i - length xs)
back-place [] ys i h = let e : i ≡ i - 0 = omega arith in ap (slice_get ys) e
back-place (z ∷ xs) ys zero h = absurd (some-none z h)
back-place (z ∷ xs) ys (suc i) h = let e : i - length xs ≡ suc i - suc (length xs) = omega arith in back-place xs ys i h ∙ ap (slice_get ys) e

pub none-past : {X : Type 0} (xs : List X) (i : ℕ) → length xs ≤ i → slice_get xs i ≡ None
none-past [] i h = refl
none-past (z ∷ xs) zero h = absurd (omega arith)
none-past (z ∷ xs) (suc i) h = none-past xs i (omega arith)

pub none-beyond : {X : Type 0} (xs : List X) (i : ℕ) → slice_get xs i ≡ None → length xs ≤ i
none-beyond [] i h = omega arith
none-beyond (z ∷ xs) zero h = absurd (some-none z h)
none-beyond (z ∷ xs) (suc i) h = let k = none-beyond xs i h in omega arith

get-map-is : {X Y : Type 0} (f : X → Y) (xs : List X) (i : ℕ) → slice_get (map f xs) i ≡ option_map f (slice_get xs i)
get-map-is f [] i = refl
get-map-is f (x ∷ xs) zero = refl
get-map-is f (x ∷ xs) (suc i) = get-map-is f xs i

pub get-map : {X Y : Type 0} (f : X → Y) (xs : List X) (i : ℕ) (o : Option X) → slice_get xs i ≡ o → slice_get (map f xs) i ≡ option_map f o
get-map f xs i o h = get-map-is f xs i ∙ ap (option_map f) h

-- a name among these, and a place past them
pub here : (xs : List Declared) (n : ℕ) (d : Declared) → slice_get xs n ≡ Some d → IsAmong (map declared_tree xs) n d.spot
here xs n d is = λ rest. (
  declared_tree d,
  front-place (map declared_tree xs) rest n (declared_tree d) (get-map declared_tree xs n (Some d) is),
  refl,
)

pub later : (xs : List Declared) (n k : ℕ) → k ≡ length xs → k ≤ n → IsAfter (map declared_tree xs) n (n - k)
later xs n k e past = λ rest.
    back-place (map declared_tree xs) rest n (get-map declared_tree xs n None (none-past xs n (omega (arith, e, past))))
    ∙ ap (λ j. slice_get rest (n - j)) (length-map xs declared_tree ∙ sym e)

-- where place n is place `left` of the names ds ++ more, and the wanted one is among ds
pub among-here : (all ds more rest : List DeclaredTree) (n left : ℕ) (spot : Spot)
    → slice_get ((ds ++ more) ++ rest) left ≡ slice_get (all ++ rest) n → IsAmong ds left spot → IsAt (all ++ rest) n spot
among-here all ds more rest n left spot same h =
    let k = h (more ++ rest) in
    (k.0, sym same ∙ ap (λ xs. slice_get xs left) (append_assoc ds more rest) ∙ k.1, k.2)

-- and where it comes after ds
pub after-here : (all ds more rest : List DeclaredTree) (n left next : ℕ)
    → slice_get ((ds ++ more) ++ rest) left ≡ slice_get (all ++ rest) n → IsAfter ds left next → slice_get (more ++ rest) next ≡ slice_get (all ++ rest) n
after-here all ds more rest n left next same h =
    sym (h (more ++ rest)) ∙ sym (ap (λ xs. slice_get xs left) (append_assoc ds more rest)) ∙ same

pub whole : (ds : List DeclaredTree) (n : ℕ) (spot : Spot) → IsAmong ds n spot → IsAt ds n spot
whole ds n spot h = subst (λ xs. IsAt xs n spot) (append-nil ds) (h [])

pub beyond : (ds : List DeclaredTree) (n left : ℕ) → IsAfter ds n left → length ds ≤ n
beyond ds n left h = none-beyond ds n (subst (λ xs. slice_get xs n ≡ None) (append-nil ds) (h []))
