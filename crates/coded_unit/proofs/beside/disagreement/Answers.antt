use Rattle.coded_unit.proofs.Multiples.{operand_wide}
use Rattle.coded_unit.proofs.beside.disagreement.Goals as goal

pub minus-requires : goal.minus-requires
minus-requires c = record {
  first = operand_wide c.args.profile c.own.result _ c.own.ensures;
  second = operand_wide c.args.profile c.args.operand.multiple c.args.operand.value c.requires;
}
