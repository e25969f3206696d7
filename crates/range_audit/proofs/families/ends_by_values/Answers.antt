use Rattle.std.proofs.Common.{sym, ◌∙◌, subst}
use Rattle.range_walk.specs.Intervals.{Fit}
use Rattle.range_audit.proofs.families.ends_by_values.Goals as goal

pub returns : goal.returns
returns c = λ e held row vs hold given whole fit.
    let narrow = c.in-Some.ensures.fits held row vs hold given (whole ∙ sym c.requires.many) fit in
    c.ends_by_cases.ensures e held row vs hold given whole (subst (λ rs. Fit rs vs) (sym c.deref_mut.ensures.value) narrow)
