use Rattle.telegram.proofs.InRange.{same, below_is}
use Rattle.telegram.proofs.Delivering.{addend_is, no_addend, no_sender, not_begun, delivered}
use Rattle.telegram.proofs.script.lines.delivery_if.Goals as goal

pub returns-then-not-is_addend : goal.returns-then-not-is_addend
returns-then-not-is_addend c =
    no_addend c.args.wire.now c.args.begun c.args.line c.args.id c.args.number c.args.alter
    (addend_is c.args.alter _ _ c.ranges.alter c.is_addend.ensures c.if-not-is_addend.true)

pub returns-in_default : goal.returns-in_default
returns-in_default c =
    no_sender c.args.wire.now c.args.begun c.args.line c.args.id c.args.number c.args.alter
    (addend_is c.args.alter _ _ c.ranges.alter c.is_addend.ensures c.if-not-is_addend.false)
    (below_is c.args.wire.now.senders c.args.id _ _ c.ranges.id c.number_below.ensures.number c.in_default.is)

pub returns-in_default-number_below : goal.returns-in_default-number_below
returns-in_default-number_below c =
    not_begun c.args.wire.now c.args.begun c.args.line c.args.id c.args.number c.args.alter c.in-Some.id
    (addend_is c.args.alter _ _ c.ranges.alter c.is_addend.ensures c.if-not-is_addend.false)
    (below_is c.args.wire.now.senders c.args.id _ _ c.ranges.id c.number_below.ensures.number c.in-Some.is)
    (below_is c.args.begun c.args.number _ _ c.ranges.number c.number_below-2.ensures.number c.in_default-number_below.is)

pub returns : goal.returns
returns c =
    delivered c.args.wire.now c.args.begun c.args.line c.args.id c.args.number c.args.alter _ c.in-Some.id c.in-Some-number_below.number
    (addend_is c.args.alter _ _ c.ranges.alter c.is_addend.ensures c.if-not-is_addend.false)
    (below_is c.args.wire.now.senders c.args.id _ _ c.ranges.id c.number_below.ensures.number c.in-Some.is)
    (below_is c.args.begun c.args.number _ _ c.ranges.number c.number_below-2.ensures.number c.in-Some-number_below.is)
    (same c.args.alter c.ranges.alter)
