use Rattle.std.proofs.Common.{◌≤◌, length, sym, subst, ◌∙◌, arith}
use Rattle.std.proofs.lemmas.Option.{same_Some}
use Rattle.range_walk.specs.Walking.{Tells}
use Rattle.range_walk.proofs.told.tell.Goals as goal

pub returns-in-Sel : goal.returns-in-Sel
returns-in-Sel c = λ held row vs op there hold given fit count.
    let le : length c.args.known.now ≤ length vs = omega (arith, c.requires.many, count) in
    let same = same_Some c.operation_at-op.result op (sym c.operation_at-op.ensures.is ∙ there) in
    subst (λ o. Tells held row vs o c.choice.result) same (c.choice.ensures held row vs given fit le)

pub read_operands-o-requires : goal.read_operands-o-requires
read_operands-o-requires c = rw (c.requires.many, c.requires.cells) (c.operation_at-op.ensures.reads)

pub returns-in_default : goal.returns-in_default
returns-in_default c = λ held row vs op there hold given fit count.
    let le : length c.args.known.now ≤ length vs = omega (arith, c.requires.many, count) in
    let same = same_Some c.operation_at-op.result op (sym c.operation_at-op.ensures.is ∙ there) in
    subst (λ o. Tells held row vs o c.told_of.result) same (c.told_of.ensures held row vs (c.read_operands-o.ensures held vs hold fit le))
