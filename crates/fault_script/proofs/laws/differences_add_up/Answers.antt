use Rattle.fault_script.proofs.AddedUp.{add_up}
use Rattle.fault_script.proofs.laws.differences_add_up.Goals as goal

pub returns : goal.returns
returns c = add_up
