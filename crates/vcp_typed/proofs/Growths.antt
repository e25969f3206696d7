-- What one part after another adds to a measure.
use Rattle.std.proofs.Common.{◌≡◌, ℕ, ◌+◌, ◌<◌, ◌≤◌, Bool, true, false, ◌||◌, List, [], ◌∷◌, length, get_or, drop, refl, sym, ap, ◌∙◌, subst, arith}
use Rattle.std.proofs.lemmas.List.{at_drop_more, drop_all}
use Rattle.vcp_typed.specs.declared.measure.Measure.{Measure}
use Rattle.vcp_typed.specs.Measures.{Grows}
use Rattle.vcp_typed.specs.Size.{cut}

cut-sum : (n a p s r : ℕ) → a ≡ cut n → p ≡ s → r ≡ cut (a + p) → r ≡ cut (n + s)
cut-sum n a p s r h q k = omega arith

cut-part : (n a p s r : ℕ) → a ≡ cut n → p ≡ cut s → r ≡ cut (a + p) → r ≡ cut (n + s)
cut-part n a p s r h q k = omega arith

-- a part of a Size, and one of a cut Size
pub grown : (a r : Measure) (p s : ℕ) (l w : Bool) → p ≡ s → l ≡ w → r.size ≡ cut (a.size + p) → r.wide ≡ (a.wide || l) → Grows a r s w
grown a r p s l w q f h k = record { size = λ n e. cut-sum n a.size p s r.size e q h; found = k ∙ ap (λ b. a.wide || b) f }

pub grown-cut : (a r : Measure) (p s : ℕ) (l w : Bool) → p ≡ cut s → l ≡ w → r.size ≡ cut (a.size + p) → r.wide ≡ (a.wide || l) → Grows a r s w
grown-cut a r p s l w q f h k = record { size = λ n e. cut-part n a.size p s r.size e q h; found = k ∙ ap (λ b. a.wide || b) f }

sum-assoc : (n s t : ℕ) → n + s + t ≡ n + (s + t)
sum-assoc n s t = omega arith

or-assoc : (a b c : Bool) → ((a || b) || c) ≡ (a || (b || c))
or-assoc true b c = refl
or-assoc false b c = refl

-- two parts
pub grows-two : (a b c : Measure) (s t : ℕ) (w v : Bool) → Grows a b s w → Grows b c t v → Grows a c (s + t) (w || v)
grows-two a b c s t w v h k = record {
  size = λ n e. k.size (n + s) (h.size n e) ∙ ap cut (sum-assoc n s t);
  found = k.found ∙ ap (λ x. x || v) h.found ∙ or-assoc a.wide w v;
}

pub grows-as : (a b : Measure) (s t : ℕ) (w v : Bool) → Grows a b s w → s ≡ t → w ≡ v → Grows a b t v
grows-as a b s t w v h e f = subst (λ n. Grows a b n v) e (subst (λ x. Grows a b s x) f h)

add-none : (n m : ℕ) → m ≡ cut n → m ≡ cut (n + 0)
add-none n m h = omega arith

or-none : (w : Bool) → w ≡ (w || false)
or-none true = refl
or-none false = refl

-- no part
pub grows-none : (a : Measure) → Grows a a 0 false
grows-none a = record { size = λ n e. add-none n a.size e; found = or-none a.wide }

pub zero-and : (n : ℕ) → 0 + n ≡ n
zero-and n = omega arith

-- a measure that begins with nothing
pub from-none : (m s : ℕ) → m ≡ cut (0 + s) → m ≡ cut s
from-none m s h = omega arith

-- an item, and those behind it
pub grows-more : {X : Type 0} (sizes : List X → ℕ) (size : X → ℕ) (wides : List X → Bool) (wide : X → Bool) (xs : List X) (i : ℕ) (x : X) (a b c : Measure)
    → ((y : X) (ys : List X) → sizes (y ∷ ys) ≡ size y + sizes ys) → ((y : X) (ys : List X) → wides (y ∷ ys) ≡ (wide y || wides ys))
    → i < length xs → x ≡ get_or xs i x → Grows a b (size x) (wide x) → Grows b c (sizes (drop (i + 1) xs)) (wides (drop (i + 1) xs))
    → Grows a c (sizes (drop i xs)) (wides (drop i xs))
grows-more sizes size wides wide xs i x a b c more any lt is h k =
    let e : sizes (drop i xs) ≡ size x + sizes (drop (i + 1) xs) =
    at_drop_more sizes xs i x lt ∙ ap (λ y. sizes (y ∷ drop (i + 1) xs)) (sym is) ∙ more x (drop (i + 1) xs) in
    let f : wides (drop i xs) ≡ (wide x || wides (drop (i + 1) xs)) =
    at_drop_more wides xs i x lt ∙ ap (λ y. wides (y ∷ drop (i + 1) xs)) (sym is) ∙ any x (drop (i + 1) xs) in
    grows-as a c _ _ _ _ (grows-two a b c _ _ _ _ h k) (sym e) (sym f)

-- behind the last item
pub grows-end : {X : Type 0} (sizes : List X → ℕ) (wides : List X → Bool) (xs : List X) (i : ℕ) (a : Measure) → sizes [] ≡ 0 → wides [] ≡ false
    → length xs ≤ i → Grows a a (sizes (drop i xs)) (wides (drop i xs))
grows-end sizes wides xs i a none unfound end =
    let d : drop i xs ≡ [] = drop_all i xs end in
    grows-as a a 0 _ false _ (grows-none a) (sym (ap sizes d ∙ none)) (sym (ap wides d ∙ unfound))
