use Rattle.coded_unit.specs.Words.{Short}
use Rattle.std.proofs.Common.{SFits, w64}
use Rattle.coded_unit.proofs.Bits.{as_read, cut_short}
use Rattle.coded_unit.proofs.word.short_halves.Goals as goal

pub overflow_mul-result : goal.overflow_mul-result
overflow_mul-result c = (cut_short c.args.code c.short_high_part-high.result c.ranges.code record { sfits = c.short_high_part-high.type_inv } c.short_high_part-high.ensures).1.product

pub overflow_sub-result : goal.overflow_sub-result
overflow_sub-result c = (cut_short c.args.code c.short_high_part-high.result c.ranges.code record { sfits = c.short_high_part-high.type_inv } c.short_high_part-high.ensures).1.left

pub returns-clause-whole : goal.returns-clause-whole
returns-clause-whole c = (cut_short c.args.code c.short_high_part-high.result c.ranges.code record { sfits = c.short_high_part-high.type_inv } c.short_high_part-high.ensures).1.whole

pub returns-clause-least : goal.returns-clause-least
returns-clause-least c = (cut_short c.args.code c.short_high_part-high.result c.ranges.code record { sfits = c.short_high_part-high.type_inv } c.short_high_part-high.ensures).1.least

pub returns-clause-most : goal.returns-clause-most
returns-clause-most c = (cut_short c.args.code c.short_high_part-high.result c.ranges.code record { sfits = c.short_high_part-high.type_inv } c.short_high_part-high.ensures).1.most

pub returns-clause-small : goal.returns-clause-small
returns-clause-small c =
    let fits : SFits w64 c.short_high_part-high.result = record { sfits = c.short_high_part-high.type_inv } in
    as_read w64 Short c.short_high_part-high.result fits (cut_short c.args.code c.short_high_part-high.result c.ranges.code fits c.short_high_part-high.ensures).0
