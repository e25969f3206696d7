use Rattle.weight_audit.specs.Continues.{Continues}
use Rattle.weight_audit.specs.AuditText.{is_blind, lines_below}
use Rattle.weight_audit.proofs.report.writing.then_blind_ones.Given as goal

abbrev pub invariant-operations : goal.invariant-operations
invariant-operations g l =
    Continues (g.O.Sink.seen l.fn.out).written (g.O.Sink.seen l.out).written (g.O.Sink.seen l.fn.out).faults (g.O.Sink.seen l.out).faults
    l.fn.so_far l.so_far (lines_below (is_blind l.weights l.output l.after) l.graph l.op)
