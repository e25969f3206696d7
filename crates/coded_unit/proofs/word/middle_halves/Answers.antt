use Rattle.std.proofs.Common.{pos, negsuc, ◌≤ℤ◌, SFits, w64}
use Rattle.coded_unit.proofs.Bits.{as_read, cut_middle}
use Rattle.coded_unit.proofs.word.middle_halves.Goals as goal

pub overflow_mul-result : goal.overflow_mul-result
overflow_mul-result c = (cut_middle c.args.sum c.middle_high_part-high.result c.ranges.sum record { sfits = c.middle_high_part-high.type_inv } c.middle_high_part-high.ensures).1.product

pub overflow_sub-result : goal.overflow_sub-result
overflow_sub-result c = (cut_middle c.args.sum c.middle_high_part-high.result c.ranges.sum record { sfits = c.middle_high_part-high.type_inv } c.middle_high_part-high.ensures).1.left

pub returns-clause-whole : goal.returns-clause-whole
returns-clause-whole c = (cut_middle c.args.sum c.middle_high_part-high.result c.ranges.sum record { sfits = c.middle_high_part-high.type_inv } c.middle_high_part-high.ensures).1.whole

pub returns-clause-least : goal.returns-clause-least
returns-clause-least c = (cut_middle c.args.sum c.middle_high_part-high.result c.ranges.sum record { sfits = c.middle_high_part-high.type_inv } c.middle_high_part-high.ensures).1.least

pub returns-clause-most : goal.returns-clause-most
returns-clause-most c = (cut_middle c.args.sum c.middle_high_part-high.result c.ranges.sum record { sfits = c.middle_high_part-high.type_inv } c.middle_high_part-high.ensures).1.most

pub returns-clause-few_low : goal.returns-clause-few_low
returns-clause-few_low c =
    let fits : SFits w64 c.middle_high_part-high.result = record { sfits = c.middle_high_part-high.type_inv } in
    as_read w64 (λ z. negsuc 3 ≤ℤ z) c.middle_high_part-high.result fits (cut_middle c.args.sum c.middle_high_part-high.result c.ranges.sum fits c.middle_high_part-high.ensures).0.0

pub returns-clause-few_high : goal.returns-clause-few_high
returns-clause-few_high c =
    let fits : SFits w64 c.middle_high_part-high.result = record { sfits = c.middle_high_part-high.type_inv } in
    as_read w64 (λ z. z ≤ℤ pos 3) c.middle_high_part-high.result fits (cut_middle c.args.sum c.middle_high_part-high.result c.ranges.sum fits c.middle_high_part-high.ensures).0.1
