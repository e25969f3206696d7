use Rattle.range_walk.proofs.Putting.{fit_take}
use Rattle.range_walk.proofs.narrowing.first_ranges.Goals as goal

pub returns-clause-fits : goal.returns-clause-fits
returns-clause-fits c = λ vs fit. fit_take c.args.ranges.now c.args.i vs fit
