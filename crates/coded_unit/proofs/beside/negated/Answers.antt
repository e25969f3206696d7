use Rattle.std.proofs.Common.{◌≡◌, ◌∙◌, to_z, of_z}
use mir.Syntax.{w128}
use Rattle.std.proofs.lemmas.Int.{to_z-of_z}
use Rattle.coded_unit.proofs.Multiples.{opposite, of_operand, operand_wide}
use Rattle.coded_unit.proofs.beside.negated.Goals as goal

pub returns : goal.returns
returns c =
    let v : to_z w128 (of_z w128 c.minus.result) ≡ c.minus.result = to_z-of_z w128 c.minus.result record { sfits = c.minus.type_inv } in
    v ∙ c.minus.ensures
    ∙ opposite c.args.profile c.args.first.value _ (of_operand c.args.profile c.args.first.multiple c.args.first.value c.requires)

pub minus-requires-clause-second : goal.minus-requires-clause-second
minus-requires-clause-second c = operand_wide c.args.profile c.args.first.multiple c.args.first.value c.requires
