use Rattle.std.proofs.Common.{◌<◌, length, not, arith}
use Rattle.vcp_base.specs.Values.{at}
use Rattle.range_walk.specs.Walking.{Said}
use Rattle.range_walk.proofs.Conditions.{negation, conjunction, disjunction, parts_map}
use Rattle.range_walk.proofs.choices.+case_within.Goals as goal

pub returns-then-is_truth : goal.returns-then-is_truth
returns-then-is_truth t c = λ held row vs given fit le said.
    let op = c.operation_at-op.result in
    let within : c.args.c < length vs = omega (arith, le, c.requires.condition) in
    let value = fit op.a c.earlier_range-denied.result (omega (arith, c.operation_at-op.ensures.first, within)) c.earlier_range-denied.ensures in
    c.case_within.ensures held row vs given fit le
    (negation held row vs op c.args.c (given.each c.args.c op within c.operation_at-op.ensures.is) c.operation_at-op.ensures.earlier c.args.truth c.in-Not.is
    (c.is_truth.ensures c.if-is_truth.true (at vs op.a) value) said)

pub returns-else-is_truth : goal.returns-else-is_truth
returns-else-is_truth t c = λ held row vs given fit le said. fit c.args.n c.earlier_range.result (omega (arith, le, c.requires.there)) c.earlier_range.ensures

pub returns-in-And : goal.returns-in-And
returns-in-And t c = λ held row vs given fit le said.
    let op = c.operation_at-op.result in
    let within : c.args.c < length vs = omega (arith, le, c.requires.condition) in
    c.connected.ensures (at vs c.args.n)
    (parts_map {P = Said c.args.truth (at vs op.a)} {Q = Said c.args.truth (at vs op.b)} c.args.truth (c.case_within-first.ensures held row vs given fit le)
    (c.case_within-second.ensures held row vs given fit le)
    (conjunction held row vs op c.args.c (given.each c.args.c op within c.operation_at-op.ensures.is) c.operation_at-op.ensures.earlier c.args.truth c.in-And.is
    said))

pub returns-in-Or : goal.returns-in-Or
returns-in-Or t c = λ held row vs given fit le said.
    let op = c.operation_at-op.result in
    let within : c.args.c < length vs = omega (arith, le, c.requires.condition) in
    c.connected-in-Or.ensures (at vs c.args.n)
    (parts_map {P = Said c.args.truth (at vs op.a)} {Q = Said c.args.truth (at vs op.b)} (not c.args.truth) (c.case_within-one.ensures held row vs given fit le)
    (c.case_within-other.ensures held row vs given fit le)
    (disjunction held row vs op c.args.c (given.each c.args.c op within c.operation_at-op.ensures.is) c.operation_at-op.ensures.earlier c.args.truth c.in-Or.is
    said))
