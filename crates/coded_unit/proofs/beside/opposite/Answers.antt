use Rattle.std.proofs.Common.{◌≡◌, ◌∙◌, pos, to_z, of_z}
use mir.Syntax.{w128}
use Rattle.std.proofs.lemmas.Int.{to_z-of_z}
use Rattle.coded_unit.proofs.Multiples.{difference, of_operand, operand_wide}
use Rattle.coded_unit.proofs.beside.opposite.Goals as goal

pub returns : goal.returns
returns c =
    let v : to_z w128 (of_z w128 c.minus.result) ≡ c.minus.result = to_z-of_z w128 c.minus.result record { sfits = c.minus.type_inv } in
    v ∙ c.minus.ensures
    ∙ difference c.args.profile (pos 1) c.args.first.value _ _ (of_operand c.args.profile c.own.result (pos 1) c.own.ensures)
    (of_operand c.args.profile c.args.first.multiple c.args.first.value c.requires)

pub minus-requires : goal.minus-requires
minus-requires c = record {
  first = operand_wide c.args.profile c.own.result (pos 1) c.own.ensures;
  second = operand_wide c.args.profile c.args.first.multiple c.args.first.value c.requires;
}
