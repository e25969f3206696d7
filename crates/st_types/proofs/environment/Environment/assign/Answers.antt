use Rattle.st_types.specs.Full.{so-two}
use Rattle.st_types.proofs.StmtNodes.{assign-types}
use Rattle.st_types.proofs.environment.Environment.assign.Goals as goal

pub returns : goal.returns
returns c =
    so-two c.type_expression-e.ensures c.assign_of.ensures
    (λ h k. assign-types _ _ _ _ _ _ _ _ _ _ _ _ c.find-x.ensures c.name_fault.ensures h k)
