use Rattle.range_walk.proofs.Outcomes.{computed_tells}
use Rattle.range_walk.proofs.told.told_by.Goals as goal

pub returns : goal.returns
returns c = λ held row vs y within.
    computed_tells held row vs c.args.op.now c.args.bounds c.met-range.result c.are_of_type-fits.result c.may_divide_by_zero-div_zero.result
    c.requires (λ e. c.may_divide_by_zero-div_zero.ensures e _ y) within (λ e v w. c.are_of_type-fits.ensures e v w)
    (λ v f w. c.met-range.ensures v (c.of_type-of_type.ensures v f) w)
