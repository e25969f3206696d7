use Rattle.weight_audit.specs.Continues.{Continues}
use Rattle.weight_audit.specs.AuditText.{distances_below}
use Rattle.weight_audit.proofs.report.writing.then_output.Given as goal

abbrev pub invariant-distances : goal.invariant-distances
invariant-distances g l =
    Continues (g.O.Sink.seen l.fn.out).written (g.O.Sink.seen l.out).written (g.O.Sink.seen l.fn.out).faults (g.O.Sink.seen l.out).faults
    l.fn.so_far l.so_far (distances_below l.graph l.weights l.output l.after)
