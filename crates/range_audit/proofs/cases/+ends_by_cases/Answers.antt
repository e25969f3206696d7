use Rattle.std.proofs.Common.{◌≡◌, ◌&&◌, ◌<◌, true, inl, inr, sym, subst, ◌∙◌, arith}
use Rattle.std.proofs.lemmas.Bool.{and_parts}
use Rattle.range_walk.specs.Intervals.{Fit}
use Rattle.range_audit.proofs.Steps.{as_many}
use Rattle.range_audit.proofs.cases.+ends_by_cases.Goals as goal

pub earlier_range-least-requires : goal.earlier_range-least-requires
earlier_range-least-requires t c = subst (λ m. c.args.n < m) (sym c.requires.many) c.requires.there

pub halved-requires : goal.halved-requires
halved-requires t c = record { there = subst (λ m. c.args.n < m) (sym c.requires.many) c.requires.there; many = as_many _ _ c.requires.many }

pub returns-then-has_none : goal.returns-then-has_none
returns-then-has_none t c = λ e held row vs hold given whole fit.
    absurd (c.has_none.ensures.fit c.if-has_none.true vs (omega (arith, whole, c.requires.many)) fit)

pub returns : goal.returns
returns t c = λ e held row vs hold given whole fit.
    let both : (c.ends_closely-first.result && c.ends_by_cases-second.result) ≡ true = sym c.both_hold.ensures ∙ e in
    let parts = and_parts c.ends_closely-first.result c.ends_by_cases-second.result both in
    elim (c.in-Some.ensures.one held row vs hold given (whole ∙ sym c.requires.many) fit) [
      | inl low ↦ c.ends_closely-first.ensures parts.0 held row vs hold given whole (subst (λ rs. Fit rs vs) (sym c.deref_mut.ensures.value) low)
      | inr high ↦ c.ends_by_cases-second.ensures parts.1 held row vs hold given whole (subst (λ rs. Fit rs vs) (sym c.deref_mut-2.ensures.value) high)
    ]
