use Rattle.std.proofs.Common.{refl, ◌≡◌, ℤ, ap, ◌∙◌, arith, to_z, of_z, w64}
use mir.Syntax.{w128}
use Rattle.std.proofs.lemmas.Int.{to_z-of_z}
use Rattle.vcp_base.specs.declared.ty.Ty.{Ty}
use Rattle.vcp_base.specs.declared.kind.Kind.{Kind}
use Rattle.vcp_base.specs.declared.kind.Kind.TheVariants as kind
use Rattle.vcp_base.specs.declared.ty.Ty.TheVariants as ty
use Rattle.vcp_base.specs.Types.{fits}
use Rattle.vcp_base.specs.Kinds.{outcome}
use Rattle.vcp_base.proofs.OutcomeLaws.{and_true, and_more, told_is, divided_is}
use Rattle.vcp_base.proofs.outcomes.short_outcome.Goals as goal

-- arguments of 64 bits, written and read back
read_back : (k : Kind) (from to : Ty) (imm a b c : ℤ) → to_z w64 (of_z w64 a) ≡ a → to_z w64 (of_z w64 b) ≡ b → to_z w64 (of_z w64 c) ≡ c
    → outcome k from to imm (to_z w64 (of_z w64 a)) (to_z w64 (of_z w64 b)) (to_z w64 (of_z w64 c)) ≡ outcome k from to imm a b c
read_back k from to imm a b c e f g =
    ap (λ x. outcome k from to imm x (to_z w64 (of_z w64 b)) (to_z w64 (of_z w64 c))) e
    ∙ ap (λ x. outcome k from to imm a x (to_z w64 (of_z w64 c))) f
    ∙ ap (outcome k from to imm a b) g

pub returns-in-Load : goal.returns-in-Load
returns-in-Load c =
    let v : to_z w128 (of_z w128 c.same_value.result) ≡ c.same_value.result = grind (arith, to_z-of_z) in
    c.told-in-Load.ensures
    ∙ told_is c.args.kind kind.Load c.args.from c.args.ty c.args.imm (to_z w64 (of_z w64 c.args.a))
    (to_z w64 (of_z w64 c.args.b)) (to_z w64 (of_z w64 c.args.c))
    c.is_in.result (to_z w128 (of_z w128 c.same_value.result)) c.in-Load.is (c.is_in.ensures ∙ and_true _ ∙ and_true _)
    refl (v ∙ c.same_value.ensures)
    ∙ read_back c.args.kind c.args.from c.args.ty c.args.imm c.args.a c.args.b c.args.c (to_z-of_z w64 c.args.a c.ranges.a)
    (to_z-of_z w64 c.args.b c.ranges.b) (to_z-of_z w64 c.args.c c.ranges.c)

pub returns-in-Store : goal.returns-in-Store
returns-in-Store c =
    let v : to_z w128 (of_z w128 c.same_value-in-Store.result) ≡ c.same_value-in-Store.result = grind (arith, to_z-of_z) in
    c.told-in-Store.ensures
    ∙ told_is c.args.kind kind.Store c.args.from c.args.ty c.args.imm (to_z w64 (of_z w64 c.args.a))
    (to_z w64 (of_z w64 c.args.b)) (to_z w64 (of_z w64 c.args.c))
    c.is_in-in-Store.result (to_z w128 (of_z w128 c.same_value-in-Store.result)) c.in-Store.is (c.is_in-in-Store.ensures ∙ and_true _ ∙ and_true _)
    refl (v ∙ c.same_value-in-Store.ensures)
    ∙ read_back c.args.kind c.args.from c.args.ty c.args.imm c.args.a c.args.b c.args.c (to_z-of_z w64 c.args.a c.ranges.a)
    (to_z-of_z w64 c.args.b c.ranges.b) (to_z-of_z w64 c.args.c c.ranges.c)

pub returns-in-Out : goal.returns-in-Out
returns-in-Out c =
    let v : to_z w128 (of_z w128 c.same_value-in-Out.result) ≡ c.same_value-in-Out.result = grind (arith, to_z-of_z) in
    c.told-in-Out.ensures
    ∙ told_is c.args.kind kind.Out c.args.from c.args.ty c.args.imm (to_z w64 (of_z w64 c.args.a))
    (to_z w64 (of_z w64 c.args.b)) (to_z w64 (of_z w64 c.args.c))
    c.is_in-in-Out.result (to_z w128 (of_z w128 c.same_value-in-Out.result)) c.in-Out.is (c.is_in-in-Out.ensures ∙ and_true _ ∙ and_true _)
    refl (v ∙ c.same_value-in-Out.ensures)
    ∙ read_back c.args.kind c.args.from c.args.ty c.args.imm c.args.a c.args.b c.args.c (to_z-of_z w64 c.args.a c.ranges.a)
    (to_z-of_z w64 c.args.b c.ranges.b) (to_z-of_z w64 c.args.c c.ranges.c)

pub returns-in-Conv : goal.returns-in-Conv
returns-in-Conv c =
    let v : to_z w128 (of_z w128 c.same_value-in-Conv.result) ≡ c.same_value-in-Conv.result = grind (arith, to_z-of_z) in
    c.told-in-Conv.ensures
    ∙ told_is c.args.kind kind.Conv c.args.from c.args.ty c.args.imm (to_z w64 (of_z w64 c.args.a))
    (to_z w64 (of_z w64 c.args.b)) (to_z w64 (of_z w64 c.args.c))
    c.is_in-in-Conv.result (to_z w128 (of_z w128 c.same_value-in-Conv.result)) c.in-Conv.is (c.is_in-in-Conv.ensures ∙ and_true _ ∙ and_true _)
    refl (v ∙ c.same_value-in-Conv.ensures)
    ∙ read_back c.args.kind c.args.from c.args.ty c.args.imm c.args.a c.args.b c.args.c (to_z-of_z w64 c.args.a c.ranges.a)
    (to_z-of_z w64 c.args.b c.ranges.b) (to_z-of_z w64 c.args.c c.ranges.c)

pub returns-in-Neg : goal.returns-in-Neg
returns-in-Neg c =
    let v : to_z w128 (of_z w128 c.negated.result) ≡ c.negated.result = grind (arith, to_z-of_z) in
    c.told-in-Neg.ensures
    ∙ told_is c.args.kind kind.Neg c.args.from c.args.ty c.args.imm (to_z w64 (of_z w64 c.args.a))
    (to_z w64 (of_z w64 c.args.b)) (to_z w64 (of_z w64 c.args.c))
    c.is_in-in-Neg.result (to_z w128 (of_z w128 c.negated.result)) c.in-Neg.is (c.is_in-in-Neg.ensures ∙ and_true _ ∙ and_true _)
    refl (v ∙ c.negated.ensures)
    ∙ read_back c.args.kind c.args.from c.args.ty c.args.imm c.args.a c.args.b c.args.c (to_z-of_z w64 c.args.a c.ranges.a)
    (to_z-of_z w64 c.args.b c.ranges.b) (to_z-of_z w64 c.args.c c.ranges.c)

pub returns-in-Not : goal.returns-in-Not
returns-in-Not c =
    let v : to_z w128 (of_z w128 c.difference.result) ≡ c.difference.result = grind (arith, to_z-of_z) in
    c.told-in-Not.ensures
    ∙ told_is c.args.kind kind.Not c.args.from c.args.ty c.args.imm (to_z w64 (of_z w64 c.args.a))
    (to_z w64 (of_z w64 c.args.b)) (to_z w64 (of_z w64 c.args.c))
    c.is_in-in-Not.result (to_z w128 (of_z w128 c.difference.result)) c.in-Not.is (c.is_in-in-Not.ensures ∙ and_true _ ∙ and_true _)
    refl (v ∙ c.difference.ensures)
    ∙ read_back c.args.kind c.args.from c.args.ty c.args.imm c.args.a c.args.b c.args.c (to_z-of_z w64 c.args.a c.ranges.a)
    (to_z-of_z w64 c.args.b c.ranges.b) (to_z-of_z w64 c.args.c c.ranges.c)

pub returns-in-Add : goal.returns-in-Add
returns-in-Add c =
    let v : to_z w128 (of_z w128 c.sum.result) ≡ c.sum.result = grind (arith, to_z-of_z) in
    c.told-in-Add.ensures
    ∙ told_is c.args.kind kind.Add c.args.from c.args.ty c.args.imm (to_z w64 (of_z w64 c.args.a))
    (to_z w64 (of_z w64 c.args.b)) (to_z w64 (of_z w64 c.args.c))
    c.are_in.result (to_z w128 (of_z w128 c.sum.result)) c.in-Add.is (c.are_in.ensures ∙ and_true _) refl (v ∙ c.sum.ensures)
    ∙ read_back c.args.kind c.args.from c.args.ty c.args.imm c.args.a c.args.b c.args.c (to_z-of_z w64 c.args.a c.ranges.a)
    (to_z-of_z w64 c.args.b c.ranges.b) (to_z-of_z w64 c.args.c c.ranges.c)

pub returns-in-Sub : goal.returns-in-Sub
returns-in-Sub c =
    let v : to_z w128 (of_z w128 c.difference-in-Sub.result) ≡ c.difference-in-Sub.result = grind (arith, to_z-of_z) in
    c.told-in-Sub.ensures
    ∙ told_is c.args.kind kind.Sub c.args.from c.args.ty c.args.imm (to_z w64 (of_z w64 c.args.a))
    (to_z w64 (of_z w64 c.args.b)) (to_z w64 (of_z w64 c.args.c))
    c.are_in-in-Sub.result (to_z w128 (of_z w128 c.difference-in-Sub.result)) c.in-Sub.is (c.are_in-in-Sub.ensures ∙ and_true _)
    refl (v ∙ c.difference-in-Sub.ensures)
    ∙ read_back c.args.kind c.args.from c.args.ty c.args.imm c.args.a c.args.b c.args.c (to_z-of_z w64 c.args.a c.ranges.a)
    (to_z-of_z w64 c.args.b c.ranges.b) (to_z-of_z w64 c.args.c c.ranges.c)

pub returns-in-Mul : goal.returns-in-Mul
returns-in-Mul c =
    let v : to_z w128 (of_z w128 c.product.result) ≡ c.product.result = grind (arith, to_z-of_z) in
    c.told-in-Mul.ensures
    ∙ told_is c.args.kind kind.Mul c.args.from c.args.ty c.args.imm (to_z w64 (of_z w64 c.args.a))
    (to_z w64 (of_z w64 c.args.b)) (to_z w64 (of_z w64 c.args.c))
    c.are_in-in-Mul.result (to_z w128 (of_z w128 c.product.result)) c.in-Mul.is (c.are_in-in-Mul.ensures ∙ and_true _)
    refl (v ∙ c.product.ensures)
    ∙ read_back c.args.kind c.args.from c.args.ty c.args.imm c.args.a c.args.b c.args.c (to_z-of_z w64 c.args.a c.ranges.a)
    (to_z-of_z w64 c.args.b c.ranges.b) (to_z-of_z w64 c.args.c c.ranges.c)

pub returns-in-Div : goal.returns-in-Div
returns-in-Div c =
    let v : to_z w128 (of_z w128 c.quotient.result) ≡ c.quotient.result = grind (arith, to_z-of_z) in
    c.divided.ensures
    ∙ divided_is c.args.kind kind.Div c.args.from c.args.ty c.args.imm (to_z w64 (of_z w64 c.args.a))
    (to_z w64 (of_z w64 c.args.b)) (to_z w64 (of_z w64 c.args.c))
    c.are_in-in-Div.result (to_z w128 (of_z w128 c.quotient.result)) c.in-Div.is (c.are_in-in-Div.ensures ∙ and_true _)
    refl (λ z. v ∙ c.quotient.ensures z)
    ∙ read_back c.args.kind c.args.from c.args.ty c.args.imm c.args.a c.args.b c.args.c (to_z-of_z w64 c.args.a c.ranges.a)
    (to_z-of_z w64 c.args.b c.ranges.b) (to_z-of_z w64 c.args.c c.ranges.c)

pub returns-in-Mod : goal.returns-in-Mod
returns-in-Mod c =
    let v : to_z w128 (of_z w128 c.rest.result) ≡ c.rest.result = grind (arith, to_z-of_z) in
    c.divided-in-Mod.ensures
    ∙ divided_is c.args.kind kind.Mod c.args.from c.args.ty c.args.imm (to_z w64 (of_z w64 c.args.a))
    (to_z w64 (of_z w64 c.args.b)) (to_z w64 (of_z w64 c.args.c))
    c.are_in-in-Mod.result (to_z w128 (of_z w128 c.rest.result)) c.in-Mod.is (c.are_in-in-Mod.ensures ∙ and_true _)
    refl (λ z. v ∙ c.rest.ensures z)
    ∙ read_back c.args.kind c.args.from c.args.ty c.args.imm c.args.a c.args.b c.args.c (to_z-of_z w64 c.args.a c.ranges.a)
    (to_z-of_z w64 c.args.b c.ranges.b) (to_z-of_z w64 c.args.c c.ranges.c)

pub returns-in-Eq : goal.returns-in-Eq
returns-in-Eq c =
    let v : to_z w128 (of_z w128 c.equal.result) ≡ c.equal.result = grind (arith, to_z-of_z) in
    c.told-in-Eq.ensures
    ∙ told_is c.args.kind kind.Eq c.args.from c.args.ty c.args.imm (to_z w64 (of_z w64 c.args.a))
    (to_z w64 (of_z w64 c.args.b)) (to_z w64 (of_z w64 c.args.c))
    c.are_in-in-Eq.result (to_z w128 (of_z w128 c.equal.result)) c.in-Eq.is (c.are_in-in-Eq.ensures ∙ and_true _) refl (v ∙ c.equal.ensures)
    ∙ read_back c.args.kind c.args.from c.args.ty c.args.imm c.args.a c.args.b c.args.c (to_z-of_z w64 c.args.a c.ranges.a)
    (to_z-of_z w64 c.args.b c.ranges.b) (to_z-of_z w64 c.args.c c.ranges.c)

pub returns-in-Lt : goal.returns-in-Lt
returns-in-Lt c =
    let v : to_z w128 (of_z w128 c.less.result) ≡ c.less.result = grind (arith, to_z-of_z) in
    c.told-in-Lt.ensures
    ∙ told_is c.args.kind kind.Lt c.args.from c.args.ty c.args.imm (to_z w64 (of_z w64 c.args.a))
    (to_z w64 (of_z w64 c.args.b)) (to_z w64 (of_z w64 c.args.c))
    c.are_in-in-Lt.result (to_z w128 (of_z w128 c.less.result)) c.in-Lt.is (c.are_in-in-Lt.ensures ∙ and_true _) refl (v ∙ c.less.ensures)
    ∙ read_back c.args.kind c.args.from c.args.ty c.args.imm c.args.a c.args.b c.args.c (to_z-of_z w64 c.args.a c.ranges.a)
    (to_z-of_z w64 c.args.b c.ranges.b) (to_z-of_z w64 c.args.c c.ranges.c)

pub returns-in-And : goal.returns-in-And
returns-in-And c =
    let v : to_z w128 (of_z w128 c.both.result) ≡ c.both.result = grind (arith, to_z-of_z) in
    c.told-in-And.ensures
    ∙ told_is c.args.kind kind.And c.args.from c.args.ty c.args.imm (to_z w64 (of_z w64 c.args.a))
    (to_z w64 (of_z w64 c.args.b)) (to_z w64 (of_z w64 c.args.c))
    c.are_in-in-And.result (to_z w128 (of_z w128 c.both.result)) c.in-And.is (c.are_in-in-And.ensures ∙ and_true _)
    refl (v ∙ c.both.ensures)
    ∙ read_back c.args.kind c.args.from c.args.ty c.args.imm c.args.a c.args.b c.args.c (to_z-of_z w64 c.args.a c.ranges.a)
    (to_z-of_z w64 c.args.b c.ranges.b) (to_z-of_z w64 c.args.c c.ranges.c)

pub returns-in-Or : goal.returns-in-Or
returns-in-Or c =
    let v : to_z w128 (of_z w128 c.either.result) ≡ c.either.result = grind (arith, to_z-of_z) in
    c.told-in-Or.ensures
    ∙ told_is c.args.kind kind.Or c.args.from c.args.ty c.args.imm (to_z w64 (of_z w64 c.args.a))
    (to_z w64 (of_z w64 c.args.b)) (to_z w64 (of_z w64 c.args.c))
    c.are_in-in-Or.result (to_z w128 (of_z w128 c.either.result)) c.in-Or.is (c.are_in-in-Or.ensures ∙ and_true _)
    refl (v ∙ c.either.ensures)
    ∙ read_back c.args.kind c.args.from c.args.ty c.args.imm c.args.a c.args.b c.args.c (to_z-of_z w64 c.args.a c.ranges.a)
    (to_z-of_z w64 c.args.b c.ranges.b) (to_z-of_z w64 c.args.c c.ranges.c)

pub returns-in-Xor : goal.returns-in-Xor
returns-in-Xor c =
    let v : to_z w128 (of_z w128 c.differing.result) ≡ c.differing.result = grind (arith, to_z-of_z) in
    c.told-in-Xor.ensures
    ∙ told_is c.args.kind kind.Xor c.args.from c.args.ty c.args.imm (to_z w64 (of_z w64 c.args.a))
    (to_z w64 (of_z w64 c.args.b)) (to_z w64 (of_z w64 c.args.c))
    c.are_in-in-Xor.result (to_z w128 (of_z w128 c.differing.result)) c.in-Xor.is (c.are_in-in-Xor.ensures ∙ and_true _)
    refl (v ∙ c.differing.ensures)
    ∙ read_back c.args.kind c.args.from c.args.ty c.args.imm c.args.a c.args.b c.args.c (to_z-of_z w64 c.args.a c.ranges.a)
    (to_z-of_z w64 c.args.b c.ranges.b) (to_z-of_z w64 c.args.c c.ranges.c)

pub returns-in-Sel : goal.returns-in-Sel
returns-in-Sel c =
    let v : to_z w128 (of_z w128 c.chosen.result) ≡ c.chosen.result = grind (arith, to_z-of_z) in
    c.told-in-Sel.ensures
    ∙ told_is c.args.kind kind.Sel c.args.from c.args.ty c.args.imm (to_z w64 (of_z w64 c.args.a))
    (to_z w64 (of_z w64 c.args.b)) (to_z w64 (of_z w64 c.args.c))
    c.choice_is_in.result (to_z w128 (of_z w128 c.chosen.result)) c.in-Sel.is
    (c.choice_is_in.ensures ∙ and_more (fits ty.Bool (to_z w64 (of_z w64 c.args.a)))
    (fits c.args.from (to_z w64 (of_z w64 c.args.b))) (fits c.args.from (to_z w64 (of_z w64 c.args.c))))
    refl (v ∙ c.chosen.ensures)
    ∙ read_back c.args.kind c.args.from c.args.ty c.args.imm c.args.a c.args.b c.args.c (to_z-of_z w64 c.args.a c.ranges.a)
    (to_z-of_z w64 c.args.b c.ranges.b) (to_z-of_z w64 c.args.c c.ranges.c)
