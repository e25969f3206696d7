use Rattle.range_walk.proofs.range.Range.without.Goals as goal

pub returns-then-is_one : goal.returns-then-is_one
returns-then-is_one c = λ v w i j differ.
    c.without_value.ensures v i (λ e. differ (let one = c.is_only-is_one.ensures c.if-is_one.true w j in cc))
