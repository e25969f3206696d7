use Rattle.std.proofs.Common.{◌≡◌, ◌≤◌, ◌+◌, drop}
use Rattle.fault_injector.specs.FaultLines.{faults, totals_after}
use Rattle.verdict_tables.specs.Tables.{picked}
use Rattle.verdict_tables.proofs.counts.and_row.Given as goal

abbrev pub invariant-groups : goal.invariant-groups
invariant-groups l = record {
  left : totals_after l.fn.before (picked l.table l.n l.script l.verdicts)
      ≡ totals_after l.totals (picked l.table l.n (drop l.i l.script) (drop l.i l.verdicts));
  few : faults l.totals ≤ faults l.fn.before + l.i;
}
