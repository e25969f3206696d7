use Rattle.std.proofs.Common.{◌≡◌, ◌∙◌, to_z, of_z}
use mir.Syntax.{w128}
use Rattle.std.proofs.lemmas.Int.{to_z-of_z}
use Rattle.coded_unit.proofs.Multiples.{sum, of_operand, operand_wide}
use Rattle.coded_unit.proofs.beside.sum.Goals as goal

pub returns : goal.returns
returns c =
    let v : to_z w128 (of_z w128 c.plus.result) ≡ c.plus.result = to_z-of_z w128 c.plus.result record { sfits = c.plus.type_inv } in
    v ∙ c.plus.ensures ∙ sum c.args.profile c.args.first.value c.args.second.value _ _ (of_operand c.args.profile c.args.first.multiple c.args.first.value c.requires.first) (of_operand c.args.profile c.args.second.multiple c.args.second.value c.requires.second)

pub plus-requires : goal.plus-requires
plus-requires c = record {
  first = operand_wide c.args.profile c.args.first.multiple c.args.first.value c.requires.first;
  second = operand_wide c.args.profile c.args.second.multiple c.args.second.value c.requires.second;
}
