use Rattle.std.proofs.Common.{◌∙◌}
use Rattle.coded_unit.proofs.Multiples.{equal, of_operand}
use Rattle.coded_unit.proofs.beside.are_equal.Goals as goal

pub returns : goal.returns
returns c = c.is_same.ensures ∙ equal c.args.profile c.args.first.value c.args.second.value _ _ (of_operand c.args.profile c.args.first.multiple c.args.first.value c.requires.first) (of_operand c.args.profile c.args.second.multiple c.args.second.value c.requires.second)
