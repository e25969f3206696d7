use Rattle.vcp_outside.specs.Pens.{and_then}
use Rattle.range_audit.proofs.report.variables.then_variable.Goals as goal

pub returns : goal.returns
returns g c =
    let ty = rw c.ty_name.ensures at c.texts-pen.ensures in
    and_then c.text.ensures (and_then ty (and_then c.then_there.ensures c.text-2.ensures))
