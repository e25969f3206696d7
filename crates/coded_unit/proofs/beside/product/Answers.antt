use Rattle.std.proofs.Common.{ap, ◌∙◌, ◌+ℤ◌, ◌*ℤ◌, SFits, w64, rules}
use mir.Syntax.{w128}
use Rattle.std.proofs.lemmas.Int.{to_z-of_z}
use Rattle.coded_unit.specs.Multiples.{multiple}
use Rattle.coded_unit.proofs.Bits.{back}
use Rattle.coded_unit.proofs.Multiples.{of_operand, and_nothing, operand_wide, nothing_wide}
use Rattle.coded_unit.proofs.beside.product.Goals as goal

pub returns : goal.returns
returns c =
    let fits : SFits w64 c.args.second.value = search rules in
    to_z-of_z w128 c.plus.result record { sfits = c.plus.type_inv } ∙ c.plus.ensures
    ∙ ap (λ z. back w128 c.multiplied.result +ℤ back w128 z) c.disagreement.ensures
    ∙ and_nothing (back w128 c.multiplied.result)
    ∙ of_operand c.args.profile c.multiplied.result (c.args.first.value *ℤ back w64 c.args.second.value) c.multiplied.ensures
    ∙ ap (λ z. multiple c.args.profile (c.args.first.value *ℤ z)) (to_z-of_z w64 c.args.second.value fits)

pub plus-requires : goal.plus-requires
plus-requires c = record {
  first = operand_wide c.args.profile c.multiplied.result _ c.multiplied.ensures;
  second = nothing_wide c.disagreement.result c.disagreement.ensures;
}
