-- What holds of what is told.
use Rattle.std.proofs.Common.{ℕ, ◌≡◌, ◌≤◌, sym, Option, Some, None, IfSome, Result, Ok, Err, List, [], ◌∷◌, arith}
use Rattle.vcp_outside.specs.Counts.{Rose}

pub if_some_weaker : {X : Type 0} (o : Option X) (P Q : X → Type 0) → ((x : X) → P x → Q x) → IfSome o P → IfSome o Q
if_some_weaker None P Q f h = tt
if_some_weaker (Some x) P Q f h = f x h

pub if_some_both : {X : Type 0} (o p : Option X) (P Q R : X → Type 0) → p ≡ o → ((x : X) → P x → Q x → R x) → IfSome o P → IfSome p Q → IfSome o R
if_some_both None p P Q R e f h k = tt
if_some_both (Some x) p P Q R e f h k = f x h (rw e at k)

pub if_some_always : {X : Type 0} (o : Option X) (P : X → Type 0) → ((x : X) → P x) → IfSome o P
if_some_always None P f = tt
if_some_always (Some x) P f = f x

-- what holds of the one that there is
pub if_some_is : {X : Type 0} (o : Option X) (x : X) (P : X → Type 0) → Some x ≡ o → P x → IfSome o P
if_some_is None x P e h = absurd cc
if_some_is (Some y) x P e h = let same : x ≡ y = cc in rw same at h

pub if_some_same : {X : Type 0} (o p : Option X) (P : X → Type 0) → p ≡ o → IfSome p P → IfSome o P
if_some_same o p P e h = rw (sym e) h

-- what holds on a condition
pub if_some_when : {X : Type 0} (A : Type 0) (o p : Option X) (Q : X → Type 0) → p ≡ o → (A → IfSome p Q) → IfSome o (λ x. A → Q x)
if_some_when A None p Q e h = tt
if_some_when A (Some x) p Q e h = λ a. rw e at (h a)

-- ---- what can't be, and what is the same: lemmas, since a tactic in an answer reads all that the function knows

pub not_none : {X : Type 0} {x : X} {xs : List X} → x ∷ xs ≡ [] → ⊥
not_none is = cc

pub no_error : {V E : Type 0} {v : V} {e : E} → Ok v ≡ Err e → ⊥
no_error is = cc

pub same_error : {V E : Type 0} {x y : E} → (let r : Result V E = Err x in r) ≡ Err y → x ≡ y
same_error is = cc

pub same_value : {V E : Type 0} {x y : V} → (let r : Result V E = Ok x in r) ≡ Ok y → x ≡ y
same_value is = cc

-- a count that rose later, or after it stood still
pub rose_later : {f g h : ℕ} → f ≤ g → Rose g h → Rose f h
rose_later later rose = omega (arith, later, rose)

pub rose_still : {f g h : ℕ} → g ≡ f → Rose g h → Rose f h
rose_still same rose = omega (arith, same, rose)

pub none_before : {n : ℕ} → 0 ≤ n
none_before = omega arith
