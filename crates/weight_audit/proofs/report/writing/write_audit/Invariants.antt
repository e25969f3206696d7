use Rattle.vcp_outside.specs.Written.{WritesTo}
use Rattle.weight_audit.specs.AuditText.{outputs_below}
use Rattle.weight_audit.proofs.report.writing.write_audit.Given as goal

abbrev pub invariant-outputs : goal.invariant-outputs
invariant-outputs g l =
    WritesTo (g.O.Sink.seen l.fn.out) (g.O.Sink.seen l.out)
    (outputs_below l.graph l.weights l.horizon l.output) l.so_far
