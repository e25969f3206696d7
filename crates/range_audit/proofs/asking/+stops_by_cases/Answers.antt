use Rattle.std.proofs.Common.{◌≡◌, ◌⊎◌, true, inl, inr, sym, subst, ◌∙◌, arith}
use Rattle.range_walk.specs.Known.{may_stop}
use Rattle.range_walk.specs.Intervals.{Fit}
use Rattle.range_audit.proofs.Steps.{no_more_than}
use Rattle.range_audit.proofs.asking.+stops_by_cases.Goals as goal

pub tell-told-requires : goal.tell-told-requires
tell-told-requires t c = record { there = c.requires.there; many = c.requires.many; cells = c.args.cycle.now.many }

pub cases_of-requires : goal.cases_of-requires
cases_of-requires t c = no_more_than _ _ _ c.requires.many c.requires.there

pub returns-then-has_none : goal.returns-then-has_none
returns-then-has_none t c = λ held row vs op why hold given whole fit there own no e.
    absurd (c.has_none.ensures.fit c.if-has_none.true vs (omega (arith, whole, c.requires.many)) fit)

pub returns-in_default : goal.returns-in_default
returns-in_default t c = λ held row vs op why hold given whole fit there own no e.
    (c.tell-told.ensures held row vs op there hold given fit whole).stop why own no e

pub returns : goal.returns
returns t c = λ held row vs op why hold given whole fit there own no e.
    let two = c.in-Some.ensures.halves in
    let one : (may_stop why c.stops_by_cases-first.result ≡ true) ⊎ (may_stop why c.stops_by_cases-second.result ≡ true) =
    elim (two.one held row vs hold given (whole ∙ sym c.requires.many) fit) [
      | inl low ↦ inl (c.stops_by_cases-first.ensures held row vs op why hold given whole (subst (λ rs. Fit rs vs) (sym c.deref.ensures.value) low) there own no e)
      | inr high ↦ inr (c.stops_by_cases-second.ensures held row vs op why hold given whole (subst (λ rs. Fit rs vs) (sym c.deref-2.ensures.value) high) there own no e)
    ] in
    c.joined_stops.ensures.holds why one
