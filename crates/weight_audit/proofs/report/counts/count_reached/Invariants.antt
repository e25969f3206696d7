use Rattle.std.proofs.Common.{◌≡◌, ◌≤◌}
use Rattle.weight_audit.specs.AuditText.{is_reached, count_below}
use Rattle.weight_audit.proofs.report.counts.count_reached.Given as goal

abbrev pub invariant-operations : goal.invariant-operations
invariant-operations l = record {
  value : l.reached ≡ count_below (is_reached l.weights l.output l.after) l.op;
  few : l.reached ≤ l.op;
}
