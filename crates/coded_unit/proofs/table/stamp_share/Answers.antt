use Rattle.coded_unit.proofs.Totals.{Share, share, one_fits, two_fits}
use Rattle.coded_unit.proofs.table.stamp_share.Goals as goal

all : (c : goal.After-multiplier-3) → Share c.args.kind c.multiplier.result c.multiplier-2.result c.multiplier-3.result
all c =
    share c.args.kind c.multiplier.result c.multiplier-2.result c.multiplier-3.result c.multiplier.ensures.value c.multiplier-2.ensures.value
    c.multiplier-3.ensures.value
    (c.multiplier.ensures.low, c.multiplier.ensures.high) (c.multiplier-2.ensures.low, c.multiplier-2.ensures.high)
    (c.multiplier-3.ensures.low, c.multiplier-3.ensures.high)

pub overflow_sub-result : goal.overflow_sub-result
overflow_sub-result c = one_fits c.multiplier.result (c.multiplier.ensures.low, c.multiplier.ensures.high)

pub overflow_sub-result-2 : goal.overflow_sub-result-2
overflow_sub-result-2 c =
    two_fits c.multiplier.result c.multiplier-2.result
    (c.multiplier.ensures.low, c.multiplier.ensures.high) (c.multiplier-2.ensures.low, c.multiplier-2.ensures.high)

pub overflow_sub-result-3 : goal.overflow_sub-result-3
overflow_sub-result-3 c = (all c).three

pub returns : goal.returns
returns c = record { value = (all c).is; low = (all c).low; high = (all c).high }
