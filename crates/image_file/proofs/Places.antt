-- Places: two that agree in each part are one.
use Rattle.std.proofs.Common.{◌≡◌, Option, ap, ◌∙◌}
use Rattle.op_graph.specs.declared.rules.Entry.{Entry}
use Rattle.op_graph.specs.declared.rules.Place.{Place}

pub place_is : (a a' b b' c c' d d' : Option Entry) → a ≡ a' → b ≡ b' → c ≡ c' → d ≡ d'
    → (let p : Place = record { input = a; load = b; store = c; out = d } in p) ≡ (let p : Place = record { input = a'; load = b'; store = c'; out = d' } in p)
place_is a a' b b' c c' d d' e f g h =
    ap (λ x. let p : Place = record { input = x; load = b; store = c; out = d } in p) e
    ∙ ap (λ x. let p : Place = record { input = a'; load = x; store = c; out = d } in p) f
    ∙ ap (λ x. let p : Place = record { input = a'; load = b'; store = x; out = d } in p) g
    ∙ ap (λ x. let p : Place = record { input = a'; load = b'; store = c'; out = x } in p) h
