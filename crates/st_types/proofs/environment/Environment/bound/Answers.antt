use Rattle.st_types.specs.Full.{so}
use Rattle.st_types.proofs.StmtNodes.{bounds}
use Rattle.st_types.proofs.environment.Environment.bound.Goals as goal

pub returns : goal.returns
returns c = so c.read_number-found.ensures (λ h. bounds _ _ _ _ _ _ _ _ h c.spot_of.ensures c.bound_fault.ensures)
