use Rattle.std.proofs.Common.{take, Ok}
use Rattle.vcp_outside.specs.declared.failed.Failed.{Failed}
use Rattle.vcp_outside.specs.Written.{Writes}
use Rattle.vcp_core.specs.Tasks.{lines_from}
use Rattle.vcp_core.proofs.listing.list_operations.Given as goal

abbrev pub invariant-operations : goal.invariant-operations
invariant-operations g l =
    Writes {T = Unit {0}} {E = Failed} (g.O.Sink.seen l.fn.out).written (g.O.Sink.seen l.out).written (g.O.Sink.seen l.fn.out).faults
    (g.O.Sink.seen l.out).faults
    (lines_from l.graph l.table 0 (take l.i l.graph.operations)) (Ok tt)
