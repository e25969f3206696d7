use Rattle.std.proofs.Common.{◌≡◌, ◌≤◌, ◌+◌, drop}
use Rattle.fault_injector.specs.FaultLines.{faults, totals_after}
use Rattle.verdict_tables.proofs.counts.and_all.Given as goal

abbrev pub invariant-verdicts : goal.invariant-verdicts
invariant-verdicts l = record {
  left : totals_after l.fn.before l.verdicts ≡ totals_after l.totals (drop l.i l.verdicts);
  few : faults l.totals ≤ faults l.fn.before + l.i;
}
