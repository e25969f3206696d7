use Rattle.std.proofs.Common.{◌≡◌, ◌∙◌, ap, arith, length, length-take-le, true, slice_get, Some, sym, subst}
use Rattle.range_walk.specs.Known.{is_named}
use Rattle.range_walk.specs.Intervals.{Fit}
use Rattle.range_audit.proofs.asking.stops_of.Goals as goal

pub returns-then-not-is_asked : goal.returns-then-not-is_asked
returns-then-not-is_asked c = λ held row vs op why hold row_in given whole there own no e.
    let here = subst (λ k. slice_get c.args.cycle.now.graph.now.operations k ≡ Some op) (sym whole) there in
    let named = c.requires.walk.names held row vs op why hold row_in given here own no e in
    let at_place = subst (λ k. is_named why (slice_get c.args.told.now.stops k) ≡ true) whole named in
    subst (λ o. is_named why o ≡ true) c.stops_at-plain.ensures at_place

pub returns-in_default : goal.returns-in_default
returns-in_default c = λ held row vs op why hold row_in given whole there own no e.
    let here = subst (λ k. slice_get c.args.cycle.now.graph.now.operations k ≡ Some op) (sym whole) there in
    let named = c.requires.walk.names held row vs op why hold row_in given here own no e in
    let at_place = subst (λ k. is_named why (slice_get c.args.told.now.stops k) ≡ true) whole named in
    subst (λ o. is_named why o ≡ true) c.stops_at-plain.ensures at_place

pub returns : goal.returns
returns c = λ held row vs op why hold row_in given whole there own no e.
    let many = ap length c.known.ensures ∙ c.requires.walk.known_many in
    let fit = subst (λ ks. Fit ks vs) (sym c.known.ensures) (c.requires.walk.fits held row vs hold row_in given) in
    let count = ap length c.first_ranges-first.ensures.first ∙ length-take-le c.args.i c.known.result.now (omega (arith, c.requires.there, many)) in
    let narrow = c.in-Some.ensures.fits held row vs hold given (whole ∙ sym count) (c.first_ranges-first.ensures.fits vs fit) in
    c.stops_by_cases.ensures held row vs op why hold given whole (subst (λ rs. Fit rs vs) (sym c.deref.ensures.value) narrow) there own no e
