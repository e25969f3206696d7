use Rattle.vcp_outside.specs.Pens.{and_then}
use Rattle.run_report.proofs.operations.begin_operation.Goals as goal

pub returns : goal.returns
returns g c =
    let kind = rw c.kind_name.ensures at c.texts.ensures in
    let from = rw c.ty_name.ensures at c.texts-2.ensures in
    let to = rw c.ty_name-2.ensures at c.texts-3.ensures in
    (and_then kind (and_then from to)) _ _ _ c.begin.ensures
