use Rattle.std.proofs.Common.{◌≡◌, ◌+◌, ◌≤◌, drop, sum_by}
use Rattle.vcp_typed.specs.Size.{cut, label_size}
use Rattle.vcp_typed.proofs.measure.labels_size.Given as goal

abbrev pub invariant-each : goal.invariant-each
invariant-each l = record {
  low : l.total ≤ 65537;
  is : cut (l.total + sum_by label_size (drop l.label-index l.labels)) ≡ cut (sum_by label_size l.labels);
}
