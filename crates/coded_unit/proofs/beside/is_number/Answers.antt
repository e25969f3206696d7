use Rattle.std.proofs.Common.{◌≡◌, ap, ◌∙◌, to_z, of_z}
use mir.Syntax.{w128}
use Rattle.std.proofs.lemmas.Int.{to_z-of_z}
use Rattle.vcp_base.specs.Kinds.{same}
use Rattle.coded_unit.proofs.Multiples.{equal, of_operand}
use Rattle.coded_unit.proofs.beside.is_number.Goals as goal

pub returns : goal.returns
returns c =
    let number : to_z w128 (of_z w128 c.args.number) ≡ c.args.number = to_z-of_z w128 c.args.number c.ranges.number in
    c.is_same.ensures
    ∙ equal c.args.profile c.args.first.value (to_z w128 (of_z w128 c.args.number)) _ _ (of_operand c.args.profile c.args.first.multiple c.args.first.value c.requires.first)
    (of_operand c.args.profile c.own.result (to_z w128 (of_z w128 c.args.number)) c.own.ensures)
    ∙ ap (same c.args.first.value) number
