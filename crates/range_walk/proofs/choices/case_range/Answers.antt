use Rattle.std.proofs.Common.{arith}
use Rattle.vcp_base.specs.Values.{at}
use Rattle.range_walk.proofs.Conditions.{taken_said}
use Rattle.range_walk.proofs.choices.case_range.Goals as goal

pub returns-then-is_truth : goal.returns-then-is_truth
returns-then-is_truth c = λ held row vs given fit le taken.
    c.case_within.ensures held row vs given fit le
    (taken_said c.args.truth (at vs c.args.c) (c.is_truth-is_truth.ensures c.if-is_truth.true (at vs c.args.c)
    (fit c.args.c c.earlier_range-condition.result (omega (arith, le, c.requires.condition)) c.earlier_range-condition.ensures)) taken)

pub returns-then-is_one : goal.returns-then-is_one
returns-then-is_one c = λ held row vs given fit le taken. fit c.args.n c.earlier_range-r.result (omega (arith, le, c.requires.there)) c.earlier_range-r.ensures

pub returns : goal.returns
returns c = λ held row vs given fit le taken. fit c.args.n c.earlier_range-r.result (omega (arith, le, c.requires.there)) c.earlier_range-r.ensures
