use Rattle.std.proofs.Common.{pos, ◌+ℤ◌, ◌-ℤ◌, arith, w64}
use Rattle.coded_unit.proofs.Bits.{back}
use Rattle.coded_unit.proofs.Parts.{Stepped, step_down, step_up, step_none, short_room}
use Rattle.coded_unit.proofs.word.short_step_to.Goals as goal

below : (c : goal.Then-rest-lt0)
    → Stepped w64 2305843009213693951 c.args.value c.args.rest (back w64 c.args.value -ℤ pos 1) (back w64 c.args.rest +ℤ pos 2305843009213693951)
below c =
    step_down w64 2305843009213693951 c.args.value c.args.rest c.ranges.value c.ranges.rest
    (short_room c.args.value c.args.rest c.requires.value_low c.requires.value_high c.requires.rest_low c.requires.rest_high) c.if-rest-lt0.true

above : (c : goal.Then-rest-ge-SHORT_WIDE)
    → Stepped w64 2305843009213693951 c.args.value c.args.rest (back w64 c.args.value +ℤ pos 1) (back w64 c.args.rest -ℤ pos 2305843009213693951)
above c =
    step_up w64 2305843009213693951 c.args.value c.args.rest c.ranges.value c.ranges.rest
    (short_room c.args.value c.args.rest c.requires.value_low c.requires.value_high c.requires.rest_low c.requires.rest_high) c.if-rest-ge-SHORT_WIDE.true

between : (c : goal.Else-rest-ge-SHORT_WIDE) → Stepped w64 2305843009213693951 c.args.value c.args.rest c.args.value c.args.rest
between c =
    step_none w64 2305843009213693951 c.args.value c.args.rest c.ranges.value c.ranges.rest (omega arith) c.if-rest-lt0.false c.if-rest-ge-SHORT_WIDE.false

pub overflow_sub-result : goal.overflow_sub-result
overflow_sub-result c = (below c).value

pub overflow_add-result : goal.overflow_add-result
overflow_add-result c = (below c).rest

pub overflow_cast-result : goal.overflow_cast-result
overflow_cast-result c = (below c).cast

pub overflow_add-result-then-rest-ge-SHORT_WIDE : goal.overflow_add-result-then-rest-ge-SHORT_WIDE
overflow_add-result-then-rest-ge-SHORT_WIDE c = (above c).value

pub overflow_sub-result-then-rest-ge-SHORT_WIDE : goal.overflow_sub-result-then-rest-ge-SHORT_WIDE
overflow_sub-result-then-rest-ge-SHORT_WIDE c = (above c).rest

pub overflow_cast-result-then-rest-ge-SHORT_WIDE : goal.overflow_cast-result-then-rest-ge-SHORT_WIDE
overflow_cast-result-then-rest-ge-SHORT_WIDE c = (above c).cast

pub overflow_cast-result-else-rest-ge-SHORT_WIDE : goal.overflow_cast-result-else-rest-ge-SHORT_WIDE
overflow_cast-result-else-rest-ge-SHORT_WIDE c = (between c).cast

pub returns-then-rest-lt0 : goal.returns-then-rest-lt0
returns-then-rest-lt0 c = record { whole = (below c).whole; below = (below c).below }

pub returns-then-rest-ge-SHORT_WIDE : goal.returns-then-rest-ge-SHORT_WIDE
returns-then-rest-ge-SHORT_WIDE c = record { whole = (above c).whole; below = (above c).below }

pub returns-else-rest-ge-SHORT_WIDE : goal.returns-else-rest-ge-SHORT_WIDE
returns-else-rest-ge-SHORT_WIDE c = record { whole = (between c).whole; below = (between c).below }
