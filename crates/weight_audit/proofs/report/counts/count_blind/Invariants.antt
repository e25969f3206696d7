use Rattle.std.proofs.Common.{◌≡◌, ◌≤◌}
use Rattle.weight_audit.specs.AuditText.{is_blind, count_below}
use Rattle.weight_audit.proofs.report.counts.count_blind.Given as goal

abbrev pub invariant-operations : goal.invariant-operations
invariant-operations l = record {
  value : l.blind ≡ count_below (is_blind l.weights l.output l.after) l.op;
  few : l.blind ≤ l.op;
}
