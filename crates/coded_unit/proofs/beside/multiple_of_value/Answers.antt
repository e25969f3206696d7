use Rattle.std.proofs.Common.{◌≡◌, ◌∙◌, ap, subst, not, false, pos, negsuc, ◌≤ℤ◌, ◌^◌, SFits, inl, inr}
use mir.Syntax.{w128}
use Rattle.vcp_base.specs.declared.kind.Kind.TheVariants as kind
use Rattle.vcp_base.specs.Kinds.{truth, divides_by_zero}
use Rattle.coded_unit.specs.Multiples.{multiple}
use Rattle.coded_unit.proofs.Bits.{given_by, of_kind, gives_first}
use Rattle.coded_unit.proofs.Multiples.{of_operand}
use Rattle.coded_unit.proofs.beside.multiple_of_value.Goals as goal

pub returns-in-Load : goal.returns-in-Load
returns-in-Load c =
    gives_first c.args.profile c.args.call.now.kind c.args.call.now.imm c.args.first.value c.args.second.value c.args.third.value _ c.in-Load.is
    (of_operand c.args.profile c.args.first.multiple c.args.first.value c.requires.first)

pub returns-in-Neg : goal.returns-in-Neg
returns-in-Neg c =
    given_by c.args.profile c.args.call.now.kind kind.Neg c.args.call.now.imm c.args.first.value c.args.second.value c.args.third.value c.negated.result
    record { sfits = c.negated.type_inv } c.in-Neg.is c.negated.ensures

pub returns-in-Not : goal.returns-in-Not
returns-in-Not c =
    given_by c.args.profile c.args.call.now.kind kind.Not c.args.call.now.imm c.args.first.value c.args.second.value c.args.third.value c.opposite.result
    record { sfits = c.opposite.type_inv } c.in-Not.is c.opposite.ensures

pub returns-in-Add : goal.returns-in-Add
returns-in-Add c =
    given_by c.args.profile c.args.call.now.kind kind.Add c.args.call.now.imm c.args.first.value c.args.second.value c.args.third.value c.sum.result
    record { sfits = c.sum.type_inv } c.in-Add.is c.sum.ensures

pub returns-in-Sub : goal.returns-in-Sub
returns-in-Sub c =
    given_by c.args.profile c.args.call.now.kind kind.Sub c.args.call.now.imm c.args.first.value c.args.second.value c.args.third.value c.difference.result
    record { sfits = c.difference.type_inv } c.in-Sub.is c.difference.ensures

pub returns-in-Mul : goal.returns-in-Mul
returns-in-Mul c =
    given_by c.args.profile c.args.call.now.kind kind.Mul c.args.call.now.imm c.args.first.value c.args.second.value c.args.third.value c.product.result
    record { sfits = c.product.type_inv } c.in-Mul.is c.product.ensures

pub returns-in-Div : goal.returns-in-Div
returns-in-Div c =
    given_by c.args.profile c.args.call.now.kind kind.Div c.args.call.now.imm c.args.first.value c.args.second.value c.args.third.value c.quotient.result
    record { sfits = c.quotient.type_inv } c.in-Div.is c.quotient.ensures

pub returns-in-Mod : goal.returns-in-Mod
returns-in-Mod c =
    given_by c.args.profile c.args.call.now.kind kind.Mod c.args.call.now.imm c.args.first.value c.args.second.value c.args.third.value c.rest.result
    record { sfits = c.rest.type_inv } c.in-Mod.is c.rest.ensures

pub returns-in-Sel : goal.returns-in-Sel
returns-in-Sel c =
    given_by c.args.profile c.args.call.now.kind kind.Sel c.args.call.now.imm c.args.first.value c.args.second.value c.args.third.value c.chosen.result
    record { sfits = c.chosen.type_inv } c.in-Sel.is c.chosen.ensures

pub returns-in-Eq : goal.returns-in-Eq
returns-in-Eq c =
    given_by c.args.profile c.args.call.now.kind kind.Eq c.args.call.now.imm c.args.first.value c.args.second.value c.args.third.value c.truth.result
    record { sfits = c.truth.type_inv } c.in-Eq.is (c.truth.ensures ∙ ap (λ holds. multiple c.args.profile (truth holds)) c.are_equal.ensures)

pub returns-in-Lt : goal.returns-in-Lt
returns-in-Lt c =
    given_by c.args.profile c.args.call.now.kind kind.Lt c.args.call.now.imm c.args.first.value c.args.second.value c.args.third.value c.truth-in-Lt.result
    record { sfits = c.truth-in-Lt.type_inv } c.in-Lt.is (c.truth-in-Lt.ensures ∙ ap (λ holds. multiple c.args.profile (truth holds)) c.is_less.ensures)

pub product-requires-clause-low : goal.product-requires-clause-low
product-requires-clause-low c =
    of_kind (λ z. negsuc (2 ^ 63) ≤ℤ z) c.args.call.now.kind kind.Mul
    c.args.call.now.imm c.args.first.value c.args.second.value c.args.third.value c.in-Mul.is c.requires.low

pub product-requires-clause-high : goal.product-requires-clause-high
product-requires-clause-high c =
    of_kind (λ z. z ≤ℤ pos (2 ^ 63)) c.args.call.now.kind kind.Mul
    c.args.call.now.imm c.args.first.value c.args.second.value c.args.third.value c.in-Mul.is c.requires.high

pub quotient-requires-clause-low : goal.quotient-requires-clause-low
quotient-requires-clause-low c =
    of_kind (λ z. negsuc (2 ^ 63) ≤ℤ z) c.args.call.now.kind kind.Div
    c.args.call.now.imm c.args.first.value c.args.second.value c.args.third.value c.in-Div.is c.requires.low

pub quotient-requires-clause-high : goal.quotient-requires-clause-high
quotient-requires-clause-high c =
    of_kind (λ z. z ≤ℤ pos (2 ^ 63)) c.args.call.now.kind kind.Div
    c.args.call.now.imm c.args.first.value c.args.second.value c.args.third.value c.in-Div.is c.requires.high

pub quotient-requires-clause-divisor : goal.quotient-requires-clause-divisor
quotient-requires-clause-divisor c = subst (λ k. divides_by_zero k c.args.second.value ≡ false) c.in-Div.is c.requires.divisor

pub rest-requires-clause-divisor : goal.rest-requires-clause-divisor
rest-requires-clause-divisor c = subst (λ k. divides_by_zero k c.args.second.value ≡ false) c.in-Mod.is c.requires.divisor

pub returns-in-Xor : goal.returns-in-Xor
returns-in-Xor c =
    given_by c.args.profile c.args.call.now.kind kind.Xor c.args.call.now.imm c.args.first.value c.args.second.value c.args.third.value c.truth-in-Xor.result
    record { sfits = c.truth-in-Xor.type_inv } c.in-Xor.is (c.truth-in-Xor.ensures ∙ ap (λ holds. multiple c.args.profile (truth (not holds))) c.are_equal-in-Xor.ensures)

pub returns-in-Input : goal.returns-in-Input
returns-in-Input c =
    let fits : SFits w128 c.own_number.result = record { sfits = c.own_number.type_inv } in
    elim c.in-Input.is [
      | inl is ↦ given_by c.args.profile c.args.call.now.kind kind.Input c.args.call.now.imm c.args.first.value c.args.second.value c.args.third.value c.own_number.result fits is (c.own_number.ensures.input is).0
      | inr is ↦ given_by c.args.profile c.args.call.now.kind kind.Const c.args.call.now.imm c.args.first.value c.args.second.value c.args.third.value c.own_number.result fits is (c.own_number.ensures.constant is).0
    ]
