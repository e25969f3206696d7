use Rattle.vcp_outside.specs.Pens.{unmoved, and_then}
use Rattle.range_audit.proofs.report.lines.then_named.Goals as goal

pub returns-then-not-may : goal.returns-then-not-may
returns-then-not-may g c = rw c.if-not-may.true unmoved

pub returns : goal.returns
returns g c =
    let why = rw c.stop_name.ensures at c.texts-pen.ensures in
    rw c.if-not-may.false (and_then c.then_operation_name.ensures
    (and_then why (and_then c.then_operands.ensures c.text.ensures)))
