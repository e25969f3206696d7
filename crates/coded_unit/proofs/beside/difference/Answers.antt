use Rattle.std.proofs.Common.{◌≡◌, ◌∙◌, to_z, of_z}
use mir.Syntax.{w128}
use Rattle.std.proofs.lemmas.Int.{to_z-of_z}
use Rattle.coded_unit.proofs.Multiples.{difference, of_operand, operand_wide}
use Rattle.coded_unit.proofs.beside.difference.Goals as goal

pub returns : goal.returns
returns c =
    let v : to_z w128 (of_z w128 c.minus.result) ≡ c.minus.result = to_z-of_z w128 c.minus.result record { sfits = c.minus.type_inv } in
    v ∙ c.minus.ensures ∙ difference c.args.profile c.args.first.value c.args.second.value _ _ (of_operand c.args.profile c.args.first.multiple c.args.first.value c.requires.first) (of_operand c.args.profile c.args.second.multiple c.args.second.value c.requires.second)

pub minus-requires : goal.minus-requires
minus-requires c = record {
  first = operand_wide c.args.profile c.args.first.multiple c.args.first.value c.requires.first;
  second = operand_wide c.args.profile c.args.second.multiple c.args.second.value c.requires.second;
}
