use Rattle.range_walk.proofs.walking.told_at.Goals as goal

pub returns-clause-tells : goal.returns-clause-tells
returns-clause-tells c = λ held row vs op there hold inside given fit count.
    c.told_by_type.ensures.tells held row vs op there
    (c.told_by_input-within.ensures held row vs op there inside (c.tell-first.ensures held row vs op there hold given fit count))
