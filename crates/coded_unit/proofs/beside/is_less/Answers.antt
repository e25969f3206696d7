use Rattle.std.proofs.Common.{◌∙◌}
use Rattle.coded_unit.proofs.Multiples.{less, of_operand}
use Rattle.coded_unit.proofs.beside.is_less.Goals as goal

pub returns : goal.returns
returns c = c.is_below.ensures ∙ less c.args.profile c.args.first.value c.args.second.value _ _ (of_operand c.args.profile c.args.first.multiple c.args.first.value c.requires.first) (of_operand c.args.profile c.args.second.multiple c.args.second.value c.requires.second)
