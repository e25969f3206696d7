use Rattle.std.proofs.Common.{◌≡◌, ◌≤◌}
use Rattle.range_audit.specs.Audit.{named_below}
use Rattle.range_audit.proofs.report.counts.count_named.Given as goal

abbrev pub invariant-operations : goal.invariant-operations
invariant-operations l = record {
  value : l.named ≡ named_below l.ranges.stops l.i;
  few : l.named ≤ l.i;
}
