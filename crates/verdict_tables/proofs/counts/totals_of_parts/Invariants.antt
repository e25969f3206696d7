use Rattle.std.proofs.Common.{◌≡◌, ◌≤◌, ◌*◌, drop}
use Rattle.fault_script.specs.ScriptOf.{most_faults}
use Rattle.fault_injector.specs.FaultLines.{faults, totals_after, totals_of}
use Rattle.verdict_tables.specs.Parts.{all_verdicts}
use Rattle.verdict_tables.proofs.counts.totals_of_parts.Given as goal

abbrev pub invariant-parts : goal.invariant-parts
invariant-parts l = record {
  left : totals_of (all_verdicts l.parts) ≡ totals_after l.totals (all_verdicts (drop l.k l.parts));
  few : faults l.totals ≤ l.k * most_faults;
}
