use Rattle.std.proofs.Common.{◌<◌, length, refl, sym, subst, arith}
use Rattle.vcp_base.specs.declared.ty.Ty.TheVariants as ty
use Rattle.vcp_base.specs.Kinds.{truth}
use Rattle.range_walk.specs.Intervals.{IsIn}
use Rattle.range_walk.specs.Walking.{Said}
use Rattle.range_walk.proofs.Allowed.{truth_fits}
use Rattle.range_walk.proofs.Conditions.{compares}
use Rattle.range_walk.proofs.choices.by_comparison.Goals as goal

pub returns-then-pair : goal.returns-then-pair
returns-then-pair c = λ held row vs given fit le said.
    let op = c.operation_at-op.result in
    let within : c.args.c < length vs = omega (arith, le, c.requires.condition) in
    let is = compares held row vs op c.args.c (given.each c.args.c op within c.operation_at-op.ensures.is) c.operation_at-op.ensures.earlier
    (c.is_comparison-pair.ensures c.if-pair.true) in
    let value = c.said_range-value.ensures (truth is.0) (c.of_type.ensures (truth is.0) (truth_fits ty.Bool is.0 refl)) (subst (λ v. Said c.args.truth v) is.1 said) in
    c.compared.ensures vs (fit op.a c.earlier_range-a.result (omega (arith, c.operation_at-op.ensures.first, within)) c.earlier_range-a.ensures)
    (fit op.b c.earlier_range-b.result (omega (arith, c.operation_at-op.ensures.second, within)) c.earlier_range-b.ensures)
    (subst (λ v. IsIn c.said_range-value.result v) (sym is.2) value) is.3
    (fit c.args.n c.earlier_range-r.result (omega (arith, le, c.requires.there)) c.earlier_range-r.ensures)

pub returns : goal.returns
returns c = λ held row vs given fit le said. fit c.args.n c.earlier_range-r.result (omega (arith, le, c.requires.there)) c.earlier_range-r.ensures
