use Rattle.st_types.proofs.MadeChecked.{literal-fits, widened-made, common-meets}
use Rattle.st_types.proofs.laws.widened_parts_are_checked.Goals as goal

pub returns : goal.returns
returns c = record {
  literal = literal-fits;
  widened = widened-made;
  common = common-meets;
}
