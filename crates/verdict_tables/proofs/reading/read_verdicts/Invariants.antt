use Rattle.std.proofs.Common.{◌≡◌, ◌+◌, drop, length, All}
use Rattle.std.specs.Str.Lines.{lines}
use Rattle.fault_injector.specs.Names.{Names}
use Rattle.fault_injector.specs.FaultLines.{faults}
use Rattle.verdict_tables.specs.Reading.{behind, verdicts_from, verdicts_in}
use Rattle.verdict_tables.proofs.reading.read_verdicts.Given as goal

abbrev pub invariant-groups : goal.invariant-groups
invariant-groups l = record {
  left :
      verdicts_in l.graph l.script l.text
      ≡ behind l.verdicts (verdicts_from l.graph l.totals (l.i + 1) (drop l.i l.script) (lines l.rest));
  counted : faults l.totals ≡ l.i;
  names : All (Names (length l.graph.outputs) (length l.graph.operations)) l.verdicts;
  many : length l.verdicts ≡ l.i;
}
