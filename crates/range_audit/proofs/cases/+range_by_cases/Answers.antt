use Rattle.std.proofs.Common.{inl, inr, length, sym, ap, subst, ◌∙◌, arith}
use Rattle.vcp_base.specs.Values.{at}
use Rattle.range_walk.specs.Intervals.{Fit}
use Rattle.range_audit.proofs.cases.+range_by_cases.Goals as goal

pub returns-then-has_none : goal.returns-then-has_none
returns-then-has_none t c = λ held row vs hold given whole fit.
    absurd (c.has_none.ensures.fit c.if-has_none.true vs (omega (arith, whole, c.requires.there)) fit)

pub returns-in_default : goal.returns-in_default
returns-in_default t c = λ held row vs hold given whole fit.
    fit c.args.j c.earlier_range-known.result (omega (arith, whole, c.requires.there)) c.earlier_range-known.ensures

pub returns : goal.returns
returns t c = λ held row vs hold given whole fit.
    let two = c.in-Some.ensures.halves in
    elim (two.one held row vs hold given whole fit) [
      | inl low ↦
          c.joined.ensures.first (at vs c.args.j)
          (c.range_by_cases-first.ensures held row vs hold given (whole ∙ sym two.low_many ∙ sym (ap length c.deref.ensures.value))
          (subst (λ rs. Fit rs vs) (sym c.deref.ensures.value) low))
      | inr high ↦
          c.joined.ensures.second (at vs c.args.j)
          (c.range_by_cases-second.ensures held row vs hold given (whole ∙ sym two.high_many ∙ sym (ap length c.deref-2.ensures.value))
          (subst (λ rs. Fit rs vs) (sym c.deref-2.ensures.value) high))
    ]
