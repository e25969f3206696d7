use Rattle.vcp_base.specs.Values.{at}
use Rattle.range_walk.proofs.Putting.{fit_set}
use Rattle.range_walk.proofs.narrowing.put.Goals as goal

pub returns-clause-fits : goal.returns-clause-fits
returns-clause-fits c = λ vs lt fit i.
    fit_set c.args.ranges.now c.args.n c.shared.result vs fit
    (c.shared.ensures (at vs c.args.n) (fit c.args.n c.earlier_range-before.result lt c.earlier_range-before.ensures) i)
