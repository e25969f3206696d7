use Rattle.std.proofs.Common.{sym, subst}
use Rattle.range_walk.specs.Intervals.{Fit}
use Rattle.range_audit.proofs.families.is_box_kept.Goals as goal

pub returns-then-not-has_values : goal.returns-then-not-has_values
returns-then-not-has_values c = λ e held row vs inside row_in given whole. absurd (c.has_values.ensures.none c.if-not-has_values.true held inside)

pub returns-in-None : goal.returns-in-None
returns-in-None c = λ e held row vs inside row_in given whole.
    c.ends.ensures e vs whole (subst (λ ks. Fit ks vs) (sym c.known.ensures) (c.in-Ok.ensures.fits held row vs inside.1 row_in given))

pub returns : goal.returns
returns c = λ e held row vs inside row_in given whole.
    c.ends_by_values.ensures e held row vs inside.1 given whole
    (subst (λ ks. Fit ks vs) (sym c.known-in-Some.ensures) (c.in-Ok.ensures.fits held row vs inside.1 row_in given))
