use Rattle.std.proofs.Common.{inl, inr}
use Rattle.vcp_base.proofs.Divisions.{divides, wide_fits, not_by_zero, rest_by_minus_one, rest_fits, rest_is}
use Rattle.vcp_base.proofs.outcomes.rest.Goals as goal

pub nonzero_rem-result : goal.nonzero_rem-result
nonzero_rem-result c = divides c.args.a c.args.b c.ranges.a c.ranges.b c.if-b-eqminus1.false.0 c.if-b-eqminus1.false.1

pub overflow_cast-result : goal.overflow_cast-result
overflow_cast-result c = wide_fits _ (rest_fits c.args.a _ c.ranges.a)

pub returns-then-b-eqminus1 : goal.returns-then-b-eqminus1
returns-then-b-eqminus1 c some = elim c.if-b-eqminus1.either [
  | inl zero ↦ absurd (not_by_zero c.args.b c.ranges.b zero some)
  | inr is ↦ rest_by_minus_one c.args.a c.args.b c.ranges.b is.1
]

pub returns-else-b-eqminus1 : goal.returns-else-b-eqminus1
returns-else-b-eqminus1 c some = rest_is c.args.a c.args.b c.ranges.a c.ranges.b
