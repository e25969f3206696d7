-- Lists are equal under a function where they are as long, and equal under it at each place.
use Rattle.std.proofs.Common.{◌≡◌, ℕ, zero, suc, ◌+◌, ◌<◌, ◌≤◌, Bool, true, false, List, [], ◌∷◌, length, get_or, refl, ap, ◌∙◌, sym, subst, arith, inl, inr}
use Rattle.std.proofs.lemmas.List.{get_or_read}
use Rattle.std.proofs.str.Laws.{order}
use Rattle.std.specs.Prelude.{map, ◌↔◌, IsTrue}

heads : {Y : Type 0} (x y : Y) (xs ys : List Y) → x ∷ xs ≡ y ∷ ys → (x ≡ y) × (xs ≡ ys)
heads x y xs ys e = (cc, cc)

pub by-each : {X Y : Type 0} (f : X → Y) (xs ys : List X) → length xs ≡ length ys
    → ((k : ℕ) (d : X) → k < length xs → f (get_or xs k d) ≡ f (get_or ys k d)) → map f xs ≡ map f ys
by-each f [] [] e h = refl
by-each f [] (y ∷ ys) e h = absurd (omega (arith, e))
by-each f (x ∷ xs) [] e h = absurd (omega (arith, e))
by-each f (x ∷ xs) (y ∷ ys) e h =
    let a = h 0 x (omega arith) in
    let b = by-each f xs ys (omega (arith, e)) (λ k d lt. h (suc k) d (omega (arith, lt))) in
    λ i. a i ∷ b i

pub same-length : {X Y : Type 0} (f : X → Y) (xs ys : List X) → map f xs ≡ map f ys → length xs ≡ length ys
same-length f [] [] e = refl
same-length f [] (y ∷ ys) e = absurd cc
same-length f (x ∷ xs) [] e = absurd cc
same-length f (x ∷ xs) (y ∷ ys) e = ap suc (same-length f xs ys (heads _ _ _ _ e).1)

pub each : {X Y : Type 0} (f : X → Y) (xs ys : List X) → map f xs ≡ map f ys
    → (k : ℕ) (d : X) → k < length xs → f (get_or xs k d) ≡ f (get_or ys k d)
each f [] [] e k d lt = refl
each f [] (y ∷ ys) e k d lt = absurd cc
each f (x ∷ xs) [] e k d lt = absurd cc
each f (x ∷ xs) (y ∷ ys) e zero d lt = (heads _ _ _ _ e).0
each f (x ∷ xs) (y ∷ ys) e (suc k) d lt = each f xs ys (heads _ _ _ _ e).1 k d (omega (arith, lt))

-- equal at each place before i, and at place i
pub at-one-more : {X Y : Type 0} (f : X → Y) (xs ys : List X) (i : ℕ) (x y : X) → i < length xs → length xs ≡ length ys
    → x ≡ get_or xs i x → y ≡ get_or ys i y → f x ≡ f y
    → ((k : ℕ) (d : X) → k < i → f (get_or xs k d) ≡ f (get_or ys k d))
    → (k : ℕ) (d : X) → k < i + 1 → f (get_or xs k d) ≡ f (get_or ys k d)
at-one-more f xs ys i x y in_xs long is_x is_y same before k d lt =
    elim (order k i) [
      | inl below ↦ before k d below
      | inr up ↦
          let here : i ≡ k = omega arith in
          let in_ys : i < length ys = omega arith in
          subst (λ j. f (get_or xs j d) ≡ f (get_or ys j d)) here
          (sym (ap f (get_or_read xs i x in_xs is_x d)) ∙ same ∙ ap f (get_or_read ys i y in_ys is_y d))
    ]

-- equal lists are equal at place i
pub at-place : {X Y : Type 0} (f : X → Y) (xs ys : List X) (i : ℕ) (x y : X) → i < length xs → length xs ≡ length ys
    → x ≡ get_or xs i x → y ≡ get_or ys i y → f (get_or xs i x) ≡ f (get_or ys i x) → f x ≡ f y
at-place f xs ys i x y in_xs long is_x is_y same =
    let in_ys : i < length ys = omega arith in
    ap f is_x ∙ same ∙ sym (ap f (get_or_read ys i y in_ys is_y x))

-- equal at each place, where all places are before i
pub all-before : {X Y : Type 0} (f : X → Y) (xs ys : List X) (i : ℕ) → length xs ≤ i
    → ((k : ℕ) (d : X) → k < i → f (get_or xs k d) ≡ f (get_or ys k d))
    → (k : ℕ) (d : X) → k < length xs → f (get_or xs k d) ≡ f (get_or ys k d)
all-before f xs ys i past before k d lt = before k d (omega (arith, lt, past))

-- the answers of a test of what is so, and of what isn't
pub always : {P : Type 0} → P → IsTrue true ↔ P
always p = (λ t. p, λ q. refl)

pub never : {P : Type 0} → (P → IsTrue false) → IsTrue false ↔ P
never f = (λ t. absurd cc, f)

-- what is equal to one of two equal values
pub moved : {X : Type 0} (r : Bool) (x y z : X) → x ≡ y → (IsTrue r ↔ (z ≡ x)) → IsTrue r ↔ (z ≡ y)
moved r x y z e h = (λ t. h.0 t ∙ e, λ q. h.1 (q ∙ sym e))

-- a test of two parts: of the second one where the first holds, else of the first
pub both-parts : {X Y : Type 0} (r : Bool) (a b : X) (x y : Y) → a ≡ b → (IsTrue r ↔ (x ≡ y)) → IsTrue r ↔ ((a ≡ b) × (x ≡ y))
both-parts r a b x y e h = (λ t. (e, h.0 t), λ q. h.1 q.1)

pub first-part : {P Q : Type 0} (r : Bool) → r ≡ false → (IsTrue r ↔ P) → IsTrue r ↔ (P × Q)
first-part r e h = (λ t. absurd cc, λ q. h.1 q.0)

-- a test of two values under a function, from one of their equals
pub carried : {X Y : Type 0} (f : X → Y) (r : Bool) (x y v w : X) → (IsTrue r ↔ (f x ≡ f y)) → x ≡ v → y ≡ w
    → IsTrue r ↔ (f v ≡ f w)
carried f r x y v w h p q = (λ t. sym (ap f p) ∙ h.0 t ∙ ap f q, λ s. h.1 (ap f p ∙ s ∙ sym (ap f q)))

-- one function after another
pub map-twice : {X Y Z : Type 0} (f : Y → Z) (g : X → Y) (xs : List X) → map f (map g xs) ≡ map (λ x. f (g x)) xs
map-twice f g [] = refl
map-twice {Z = Z} f g (x ∷ xs) = ap (λ (t : List Z). f (g x) ∷ t) (map-twice f g xs)

pub both-by-each : {X Y Z : Type 0} (f : Y → Z) (g : X → Y) (xs ys : List X) → length xs ≡ length ys
    → ((k : ℕ) (d : X) → k < length xs → f (g (get_or xs k d)) ≡ f (g (get_or ys k d))) → map f (map g xs) ≡ map f (map g ys)
both-by-each f g xs ys e h = map-twice f g xs ∙ by-each (λ x. f (g x)) xs ys e h ∙ sym (map-twice f g ys)

pub both-length : {X Y Z : Type 0} (f : Y → Z) (g : X → Y) (xs ys : List X) → map f (map g xs) ≡ map f (map g ys)
    → length xs ≡ length ys
both-length f g xs ys e = same-length (λ x. f (g x)) xs ys (sym (map-twice f g xs) ∙ e ∙ map-twice f g ys)

pub both-each : {X Y Z : Type 0} (f : Y → Z) (g : X → Y) (xs ys : List X) → map f (map g xs) ≡ map f (map g ys)
    → (k : ℕ) (d : X) → k < length xs → f (g (get_or xs k d)) ≡ f (g (get_or ys k d))
both-each f g xs ys e = each (λ x. f (g x)) xs ys (sym (map-twice f g xs) ∙ e ∙ map-twice f g ys)
