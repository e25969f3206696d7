use Rattle.coded_unit.proofs.Totals.{scaled_short}
use Rattle.coded_unit.proofs.table.short_scaled.Goals as goal

pub overflow_mul-result : goal.overflow_mul-result
overflow_mul-result c = (scaled_short c.args.factor c.args.by c.ranges.factor c.ranges.by.fits c.requires.low c.requires.high).fits

pub returns : goal.returns
returns c =
    let product = scaled_short c.args.factor c.args.by c.ranges.factor c.ranges.by.fits c.requires.low c.requires.high in
    record { value = product.is; small = product.near }
