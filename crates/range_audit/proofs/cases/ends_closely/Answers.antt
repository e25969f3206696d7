use Rattle.std.proofs.Common.{◌∙◌, sym}
use Rattle.range_audit.proofs.cases.ends_closely.Goals as goal

pub returns : goal.returns
returns c = λ e held row vs hold given whole fit.
    c.ends.ensures e vs whole (c.narrow_stores.ensures.fits held row vs hold given (whole ∙ sym c.requires.many) fit)
