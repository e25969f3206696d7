-- Found: the one operation that has a name.
use Rattle.std.proofs.Common.{◌≡◌, ℕ, ◌+◌, ◌<◌, Bool, true, false, List, [], ◌∷◌, ◌++◌, Result, Ok, Err, IfOk, append-nil, refl, ap, arith}
use Rattle.fault_sites.specs.declared.named.refused.Why.{Why}
use Rattle.fault_sites.specs.declared.named.refused.Why.TheVariants as reason
use Rattle.fault_sites.specs.NamedOperations.{the_one, found_next, number_if}

-- one operation more
pub found_more : (ks : List ℕ) (i : ℕ) (b : Bool) → the_one (ks ++ number_if b i) ≡ found_next (the_one ks) i b
found_more ks i false = ap the_one (append-nil ks)
found_more [] i true = refl
found_more (k ∷ []) i true = refl
found_more (k ∷ l ∷ ks) i true = refl

-- the one that was found is below the next
pub next_below : (r : Result ℕ Why) (i : ℕ) (b : Bool) → IfOk r (λ k. k < i) → IfOk (found_next r i b) (λ k. k < i + 1)
next_below (Ok k) i false old = omega (arith, old)
next_below (Err why) i false old = tt
next_below (Ok k) i true old = tt
next_below (Err reason.Unknown) i true old = omega arith
next_below (Err reason.Form) i true old = tt
next_below (Err reason.Several) i true old = tt
next_below (Err reason.Held) i true old = tt
next_below (Err reason.Site) i true old = tt
next_below (Err reason.Early) i true old = tt
next_below (Err reason.Kind) i true old = tt
next_below (Err reason.Faults) i true old = tt
next_below (Err reason.Image) i true old = tt
