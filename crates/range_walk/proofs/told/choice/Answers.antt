use Rattle.std.proofs.Common.{◌≡◌, false, refl, sym, subst, arith}
use Rattle.vcp_base.specs.Values.{at}
use Rattle.op_graph.specs.Rules.{is_input}
use Rattle.range_walk.proofs.Operands.{choice_second, choice_value}
use Rattle.range_walk.proofs.told.choice.Goals as goal

pub told_by-requires : goal.told_by-requires
told_by-requires c = subst (λ k. is_input k ≡ false) (sym c.requires.kind) refl

pub returns : goal.returns
returns c = λ held row vs given fit le.
    let op = c.args.op.now in
    let first = fit op.a c.earlier_range-a.result (omega (arith, le, c.requires.first)) c.earlier_range-a.ensures in
    let second = fit op.b c.earlier_range-b.result (omega (arith, le, c.requires.second)) c.earlier_range-b.ensures in
    c.told_by.ensures held row vs (choice_second c.earlier_range-b.result held vs op c.requires.kind second)
    (λ d. choice_value c.bounds.result held vs op c.requires.kind
    (c.bounds.ensures _ (c.chosen-value.ensures (at vs op.a) (at vs op.b) (at vs op.c) first (λ e. c.case_range-no.ensures held row vs given fit le e)
    (λ e. c.case_range-yes.ensures held row vs given fit le e))))
