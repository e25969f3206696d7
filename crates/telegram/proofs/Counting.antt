-- Counting: how many cycles begin from an event on.
use Rattle.std.proofs.Common.{◌≡◌, ℕ, suc, ◌+◌, ◌≤◌, List, ◌∷◌, length, drop, slice_get, Some, ap, ◌∙◌, arith}
use Rattle.std.proofs.lemmas.List.{drop_all}
use Rattle.telegram.specs.declared.event.Event.{Event}
use Rattle.telegram.specs.declared.event.Event.TheVariants as event
use Rattle.telegram.specs.WireRun.{sent_in}
use Rattle.telegram.specs.ScriptOf.{begun_after}
use Rattle.telegram.proofs.Growing.{drop_here}

here : (es : List Event) (i : ℕ) (e : Event) → slice_get es i ≡ Some e → drop i es ≡ e ∷ drop (i + 1) es
here es i e there = let next : suc i ≡ i + 1 = omega arith in drop_here es i e there ∙ ap (λ (k : ℕ). e ∷ drop k es) next

counted : (e : Event) (es : List Event) (k : ℕ) → ((begun : ℕ) → begun_after begun e ≡ begun + k) → length (sent_in (e ∷ es)) ≡ k + length (sent_in es)
counted (event.Cycle values) es k after = let one = after 0 in omega (arith, one)
counted (event.Deliver line id number alter) es k after = let none = after 0 in omega (arith, none)

pub next_counted : (es : List Event) (i : ℕ) (e : Event) (k : ℕ) → slice_get es i ≡ Some e → ((begun : ℕ) → begun_after begun e ≡ begun + k)
    → length (sent_in (drop i es)) ≡ k + length (sent_in (drop (i + 1) es))
next_counted es i e k there after = ap (λ (l : List Event). length (sent_in l)) (here es i e there) ∙ counted e (drop (i + 1) es) k after

pub none_left : (es : List Event) (i : ℕ) → length es ≤ i → length (sent_in (drop i es)) ≡ 0
none_left es i past = ap (λ (l : List Event). length (sent_in l)) (drop_all i es past)
