use Rattle.std.proofs.Common.{refl, ◌≡◌, ap, sym, ◌∙◌, pos, to_z, of_z}
use mir.Syntax.{w128}
use Rattle.vcp_base.specs.Kinds.{same}
use Rattle.std.proofs.lemmas.Int.{to_z-of_z}
use Rattle.coded_unit.proofs.Multiples.{rest, of_operand, of_zero, equal}
use Rattle.coded_unit.proofs.beside.rest.Goals as goal

pub returns : goal.returns
returns c =
    let v : to_z w128 (of_z w128 c.left_over.result) ≡ c.left_over.result = to_z-of_z w128 c.left_over.result record { sfits = c.left_over.type_inv } in
    v ∙ c.left_over.ensures ∙ rest c.args.profile c.args.first.value c.args.second.value _ _ (of_operand c.args.profile c.args.first.multiple c.args.first.value c.requires.first) (of_operand c.args.profile c.args.second.multiple c.args.second.value c.requires.second)

pub left_over-requires-clause-divisor : goal.left_over-requires-clause-divisor
left_over-requires-clause-divisor c =
    ap (same (to_z w128 (of_z w128 c.args.second.multiple))) (sym (of_zero c.args.profile))
    ∙ equal c.args.profile c.args.second.value (pos 0) _ _ (of_operand c.args.profile c.args.second.multiple c.args.second.value c.requires.second) refl ∙ c.requires.divisor
