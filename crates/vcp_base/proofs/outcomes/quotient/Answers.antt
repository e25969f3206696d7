use Rattle.vcp_base.proofs.Divisions.{divides, wide_fits, not_by_zero, quotient_by_minus_one, quotient_is}
use Rattle.std.proofs.Common.{◌∙◌, ap, neg_ℤ, w64}
use mir.Syntax.{w128}
use Rattle.std.proofs.lemmas.Int.{to_z-of_z}
use Rattle.vcp_base.proofs.outcomes.quotient.Goals as goal

pub nonzero_div-result : goal.nonzero_div-result
nonzero_div-result c = divides c.args.a c.args.b c.ranges.a c.ranges.b c.if-b-eq0.false c.if-b-eqminus1.false

pub overflow_cast-result : goal.overflow_cast-result
overflow_cast-result c = wide_fits _ (divides c.args.a c.args.b c.ranges.a c.ranges.b c.if-b-eq0.false c.if-b-eqminus1.false).1

pub returns-then-b-eq0 : goal.returns-then-b-eq0
returns-then-b-eq0 c some = absurd (not_by_zero c.args.b c.ranges.b c.if-b-eq0.true some)

pub returns-then-b-eqminus1 : goal.returns-then-b-eqminus1
returns-then-b-eqminus1 c some =
    to_z-of_z w128 c.negated.result (record { sfits = c.negated.type_inv })
    ∙ (c.negated.ensures ∙ (ap neg_ℤ (to_z-of_z w64 c.args.a c.ranges.a) ∙ quotient_by_minus_one c.args.a c.args.b c.ranges.b c.if-b-eqminus1.true))

pub returns-else-b-eqminus1 : goal.returns-else-b-eqminus1
returns-else-b-eqminus1 c some =
    quotient_is c.args.a c.args.b c.ranges.a c.ranges.b (divides c.args.a c.args.b c.ranges.a c.ranges.b c.if-b-eq0.false c.if-b-eqminus1.false).1
