use Rattle.std.proofs.Common.{◌≡◌, ◌≤◌, ◌*◌, drop}
use Rattle.fault_script.specs.ScriptOf.{most_faults}
use Rattle.fault_injector.specs.FaultLines.{faults, totals_after}
use Rattle.verdict_tables.specs.Parts.{picked_over, totals_over}
use Rattle.verdict_tables.proofs.counts.totals_over.Given as goal

abbrev pub invariant-parts : goal.invariant-parts
invariant-parts l = record {
  left : totals_over l.table l.n l.parts ≡ totals_after l.totals (picked_over l.table l.n (drop l.k l.parts));
  few : faults l.totals ≤ l.k * most_faults;
}
