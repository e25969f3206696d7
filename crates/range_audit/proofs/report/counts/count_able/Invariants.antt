use Rattle.std.proofs.Common.{◌≡◌, ◌≤◌}
use Rattle.range_audit.specs.RangeText.{able_below}
use Rattle.range_audit.proofs.report.counts.count_able.Given as goal

abbrev pub invariant-operations : goal.invariant-operations
invariant-operations l = record {
  value : l.able ≡ able_below l.graph l.i;
  few : l.able ≤ l.i;
}
