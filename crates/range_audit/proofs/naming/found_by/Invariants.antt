use Rattle.range_audit.proofs.Closer.{CloserAt}
use Rattle.range_audit.proofs.Joined.{JoinedAt}
use Rattle.range_audit.proofs.Steps.{AllAt}
use Rattle.range_audit.proofs.naming.found_by.Given as goal

abbrev pub invariant-operations : goal.invariant-operations
invariant-operations l = record {
  known : AllAt (CloserAt l.both l.a.known l.b.known) l.found.known l.i;
  stops : AllAt (JoinedAt l.both l.a.stops l.b.stops) l.found.stops l.i;
}
