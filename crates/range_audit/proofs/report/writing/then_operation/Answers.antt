use Rattle.vcp_outside.specs.Pens.{and_then}
use Rattle.range_audit.proofs.report.writing.then_operation.Goals as goal

pub returns : goal.returns
returns g c =
    rw (c.operation-op.ensures, c.stops_at-stops.ensures, ← c.known-known.ensures)
    (and_then c.then_known-pen.ensures (and_then c.then_named-pen.ensures c.then_named.ensures))
