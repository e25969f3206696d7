-- Growing: logs that grow, counts that don't fall, and lists with one element more.
use Rattle.std.proofs.Common.{◌≡◌, ℕ, zero, suc, ◌+◌, ◌-◌, ◌^◌, ◌≤◌, nat_lt, Bool, true, false, cond, List, [], ◌∷◌, ◌++◌, length, take, drop, slice_get, Option, Some, None, refl, sym, ap, subst, arith, append_assoc, append-nil, inl, inr}
use Rattle.coded_unit.specs.declared.call.Answer.{Answer}
use Rattle.coded_unit.specs.Log.{Entry, GrowsBy, Counts}
use Rattle.telegram.specs.WireRun.{Every}
use Rattle.coded_unit.specs.Seen.{UnitSeen, StaysHonest}

pub grows_on : (x y z : Option (List Entry)) (es fs : List Entry) → GrowsBy x y es → GrowsBy y z fs → GrowsBy x z (es ++ fs)
grows_on (Some x) (Some y) (Some z) es fs h k = rw (k, h) (append_assoc x es fs)
grows_on (Some x) (Some y) None es fs h k = tt
grows_on (Some x) None None es fs h k = tt
grows_on None None None es fs h k = tt
grows_on None None (Some z) es fs h k = absurd k
grows_on None (Some y) z es fs h k = absurd h
grows_on (Some x) None (Some z) es fs h k = absurd k

pub grows_by_none : (x : Option (List Entry)) → GrowsBy x x []
grows_by_none (Some es) = sym (append-nil es)
grows_by_none None = tt

one_more_if : (n : ℕ) (b : Bool) → n ≤ cond b (n + 1) n
one_more_if n true = omega arith
one_more_if n false = omega arith

-- a count never falls
pub counts_later : (given right : Answer) (before now : ℕ) → Counts given right before now → before ≤ now
counts_later given right before now (inl h) = omega (arith, h.1)
counts_later given right before now (inr h) = let more = one_more_if before (nat_lt before (2 ^ 64 - 1)) in omega (arith, h.1, more)

-- where no answer was wrong from the first moment to the last, none was up to a moment between them
pub honest_first : (a b c : UnitSeen) → a.wrong ≤ b.wrong → b.wrong ≤ c.wrong → StaysHonest a c → StaysHonest a b
honest_first a b c first second h = (omega (arith, first, second, h.0), h.1)

pub honest_second : (a b c : UnitSeen) → a.wrong ≤ b.wrong → b.wrong ≤ c.wrong → StaysHonest a c → StaysHonest b c
honest_second a b c first second h = (omega (arith, first, second, h.0), omega (arith, first, second, h.0, h.1))

pub take_one_more : {X : Type 0} (xs : List X) (i : ℕ) (x : X) → slice_get xs i ≡ Some x → take (suc i) xs ≡ take i xs ++ x ∷ []
take_one_more [] i x e = absurd cc
take_one_more (y ∷ xs) zero x e = let same : y ≡ x = cc in ap (λ z. z ∷ []) same
take_one_more (y ∷ xs) (suc i) x e = ap (λ l. y ∷ l) (take_one_more xs i x e)

pub drop_here : {X : Type 0} (xs : List X) (i : ℕ) (x : X) → slice_get xs i ≡ Some x → drop i xs ≡ x ∷ drop (suc i) xs
drop_here [] i x e = absurd cc
drop_here (y ∷ xs) zero x e = let same : y ≡ x = cc in ap (λ z. z ∷ xs) same
drop_here (y ∷ xs) (suc i) x e = drop_here xs i x e

pub every_more : {X : Type 0} (P : X → Type 0) (xs : List X) (x : X) → Every P xs → P x → Every P (xs ++ x ∷ [])
every_more P [] x all one = (one, tt)
every_more P (y ∷ xs) x all one = (all.0, every_more P xs x all.1 one)

pub every_at : {X : Type 0} (P : X → Type 0) (xs : List X) (i : ℕ) (x : X) → Every P xs → slice_get xs i ≡ Some x → P x
every_at P [] i x all e = absurd cc
every_at P (y ∷ xs) zero x all e = let same : y ≡ x = cc in subst P same all.0
every_at P (y ∷ xs) (suc i) x all e = every_at P xs i x all.1 e

-- the element behind these
pub at_end : {X : Type 0} (xs : List X) (x : X) (ys : List X) → slice_get (xs ++ x ∷ ys) (length xs) ≡ Some x
at_end [] x ys = refl
at_end (y ∷ xs) x ys = at_end xs x ys

pub take_drop : {X : Type 0} (n : ℕ) (xs : List X) → take n xs ++ drop n xs ≡ xs
take_drop zero xs = refl
take_drop (suc n) [] = refl
take_drop (suc n) (x ∷ xs) = ap (λ l. x ∷ l) (take_drop n xs)
