use Rattle.std.proofs.Common.{arith}
use Rattle.fault_cover.proofs.Tallying.{made_same}
use Rattle.fault_cover.proofs.tally.Tally.with.Goals as goal

pub returns : goal.returns
returns c = λ few.
    made_same (c.plus-refused.ensures (omega (arith, few))) (c.plus-nothing.ensures (omega (arith, few))) (c.plus-shows.ensures (omega (arith, few)))
    (c.plus-runs_on.ensures (omega (arith, few))) (c.plus-beyond.ensures (omega (arith, few)))
