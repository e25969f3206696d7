use Rattle.st_types.specs.Full.{so}
use Rattle.st_types.proofs.StmtNodes.{numbers}
use Rattle.st_types.proofs.environment.Environment.read_number.Goals as goal

pub returns : goal.returns
returns c =
    so c.type_expression-x.ensures
    (λ h. numbers _ _ _ _ _ _ _ _ _ _ h c.type_of-found.ensures c.form_of-form.ensures c.form_number.ensures c.number_in.ensures)
