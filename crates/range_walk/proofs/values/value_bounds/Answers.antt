use Rattle.std.proofs.Common.{◌≡◌, pos, false, sym, subst, ◌∙◌, rules}
use Rattle.vcp_base.specs.Kinds.{value, divides_by_zero}
use Rattle.range_walk.specs.Intervals.{IsWithin}
use Rattle.range_walk.proofs.Bits.{wide_is}
use Rattle.range_walk.proofs.ValueBounds.{differing, equal, not_divided, given_value}
use Rattle.range_walk.proofs.values.value_bounds.Goals as goal

pub returns-in-Input : goal.returns-in-Input
returns-in-Input c = λ x y z i j k d.
    let imm = c.args.op.now.imm in
    subst (λ v. IsWithin c.only.result v) (wide_is imm (search rules) ∙ sym (given_value c.args.op.now.kind imm x y z c.in-Input.is)) c.only.ensures

pub returns-in-Not : goal.returns-in-Not
returns-in-Not c = λ x y z i j k d.
    subst (λ t. IsWithin c.difference.result (value t c.args.op.now.imm x y z)) (sym c.in-Not.is) (c.difference.ensures (pos 1) x c.only-in-Not.ensures i)

pub returns-in-Div : goal.returns-in-Div
returns-in-Div c = λ x y z i j k d.
    let some = not_divided y (subst (λ t. divides_by_zero t y ≡ false) c.in-Div.is d) in
    subst (λ t. IsWithin c.quotient.result (value t c.args.op.now.imm x y z)) (sym c.in-Div.is) (c.quotient.ensures x y i j some)

pub returns-in-Mod : goal.returns-in-Mod
returns-in-Mod c = λ x y z i j k d.
    let some = not_divided y (subst (λ t. divides_by_zero t y ≡ false) c.in-Mod.is d) in
    subst (λ t. IsWithin c.rest.result (value t c.args.op.now.imm x y z)) (sym c.in-Mod.is) (c.rest.ensures x y i j some)

pub returns-in-Sel : goal.returns-in-Sel
returns-in-Sel c = λ x y z i j k d.
    subst (λ t. IsWithin c.bounds-in-Sel.result (value t c.args.op.now.imm x y z)) (sym c.in-Sel.is)
    (c.bounds-in-Sel.ensures _ (c.chosen-value.ensures x y z i (λ e. j) (λ e. k)))

pub returns-in-Load : goal.returns-in-Load
returns-in-Load c = λ x y z i j k d.
    subst (λ t. IsWithin c.bounds.result (value t c.args.op.now.imm x y z)) (sym c.in-Load.is) (c.bounds.ensures x i)

pub returns-in-Store : goal.returns-in-Store
returns-in-Store c = λ x y z i j k d.
    subst (λ t. IsWithin c.bounds-in-Store.result (value t c.args.op.now.imm x y z)) (sym c.in-Store.is) (c.bounds-in-Store.ensures x i)

pub returns-in-Out : goal.returns-in-Out
returns-in-Out c = λ x y z i j k d.
    subst (λ t. IsWithin c.bounds-in-Out.result (value t c.args.op.now.imm x y z)) (sym c.in-Out.is) (c.bounds-in-Out.ensures x i)

pub returns-in-Conv : goal.returns-in-Conv
returns-in-Conv c = λ x y z i j k d.
    subst (λ t. IsWithin c.bounds-in-Conv.result (value t c.args.op.now.imm x y z)) (sym c.in-Conv.is) (c.bounds-in-Conv.ensures x i)

pub returns-in-Neg : goal.returns-in-Neg
returns-in-Neg c = λ x y z i j k d.
    subst (λ t. IsWithin c.negated.result (value t c.args.op.now.imm x y z)) (sym c.in-Neg.is) (c.negated.ensures x i)

pub returns-in-Add : goal.returns-in-Add
returns-in-Add c = λ x y z i j k d.
    subst (λ t. IsWithin c.sum.result (value t c.args.op.now.imm x y z)) (sym c.in-Add.is) (c.sum.ensures x y i j)

pub returns-in-Sub : goal.returns-in-Sub
returns-in-Sub c = λ x y z i j k d.
    subst (λ t. IsWithin c.difference-in-Sub.result (value t c.args.op.now.imm x y z)) (sym c.in-Sub.is) (c.difference-in-Sub.ensures x y i j)

pub returns-in-Mul : goal.returns-in-Mul
returns-in-Mul c = λ x y z i j k d.
    subst (λ t. IsWithin c.product.result (value t c.args.op.now.imm x y z)) (sym c.in-Mul.is) (c.product.ensures x y i j)

pub returns-in-Eq : goal.returns-in-Eq
returns-in-Eq c = λ x y z i j k d.
    subst (λ t. IsWithin c.truth_bounds.result (value t c.args.op.now.imm x y z)) (sym c.in-Eq.is)
    (equal c.args.a c.args.b _ _ _ x y i j c.truth_bounds.ensures c.are_one.ensures c.are_apart.ensures)

pub returns-in-Lt : goal.returns-in-Lt
returns-in-Lt c = λ x y z i j k d.
    subst (λ t. IsWithin c.less.result (value t c.args.op.now.imm x y z)) (sym c.in-Lt.is) (c.less.ensures x y i j)

pub returns-in-And : goal.returns-in-And
returns-in-And c = λ x y z i j k d.
    subst (λ t. IsWithin c.both.result (value t c.args.op.now.imm x y z)) (sym c.in-And.is) (c.both.ensures x y i j)

pub returns-in-Or : goal.returns-in-Or
returns-in-Or c = λ x y z i j k d.
    subst (λ t. IsWithin c.either.result (value t c.args.op.now.imm x y z)) (sym c.in-Or.is) (c.either.ensures x y i j)

pub returns-in-Xor : goal.returns-in-Xor
returns-in-Xor c = λ x y z i j k d.
    subst (λ t. IsWithin c.truth_bounds-in-Xor.result (value t c.args.op.now.imm x y z)) (sym c.in-Xor.is)
    (differing c.args.a c.args.b _ _ _ x y i j c.truth_bounds-in-Xor.ensures c.are_apart-in-Xor.ensures c.are_one-in-Xor.ensures)
