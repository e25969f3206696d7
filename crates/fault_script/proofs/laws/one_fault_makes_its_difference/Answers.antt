use Rattle.fault_script.proofs.Alone.{one_fault}
use Rattle.fault_script.proofs.laws.one_fault_makes_its_difference.Goals as goal

pub returns : goal.returns
returns c = one_fault
