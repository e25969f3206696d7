use Rattle.coded_unit.specs.Words.{Small}
use Rattle.std.proofs.Common.{SFits}
use mir.Syntax.{w128}
use Rattle.coded_unit.proofs.Bits.{as_read, cut_long}
use Rattle.coded_unit.proofs.word.halves.Goals as goal

pub overflow_mul-result : goal.overflow_mul-result
overflow_mul-result c = (cut_long c.args.code c.high_part-high.result c.ranges.code record { sfits = c.high_part-high.type_inv } c.high_part-high.ensures).1.product

pub overflow_sub-result : goal.overflow_sub-result
overflow_sub-result c = (cut_long c.args.code c.high_part-high.result c.ranges.code record { sfits = c.high_part-high.type_inv } c.high_part-high.ensures).1.left

pub returns-clause-whole : goal.returns-clause-whole
returns-clause-whole c = (cut_long c.args.code c.high_part-high.result c.ranges.code record { sfits = c.high_part-high.type_inv } c.high_part-high.ensures).1.whole

pub returns-clause-least : goal.returns-clause-least
returns-clause-least c = (cut_long c.args.code c.high_part-high.result c.ranges.code record { sfits = c.high_part-high.type_inv } c.high_part-high.ensures).1.least

pub returns-clause-most : goal.returns-clause-most
returns-clause-most c = (cut_long c.args.code c.high_part-high.result c.ranges.code record { sfits = c.high_part-high.type_inv } c.high_part-high.ensures).1.most

pub returns-clause-small : goal.returns-clause-small
returns-clause-small c =
    let fits : SFits w128 c.high_part-high.result = record { sfits = c.high_part-high.type_inv } in
    as_read w128 Small c.high_part-high.result fits (cut_long c.args.code c.high_part-high.result c.ranges.code fits c.high_part-high.ensures).0
