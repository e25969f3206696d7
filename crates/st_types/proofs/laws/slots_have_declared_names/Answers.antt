use Rattle.st_types.proofs.SlotNames.{slots-pass}
use Rattle.st_types.proofs.laws.slots_have_declared_names.Goals as goal

pub returns : goal.returns
returns c = slots-pass
