use Rattle.std.proofs.Common.{◌≡◌, ◌+◌, ◌≤◌, length}
use Rattle.std.specs.Str.Lines.{lines}
use Rattle.vcp_base.specs.Limits.{most_source_bytes}
use Rattle.vcp_base.specs.Lines.{read_lines}
use Rattle.fault_script.specs.ScriptOf.{most_faults}
use Rattle.fault_sites.specs.NamedEntries.{lines_checked}
use Rattle.fault_sites.proofs.named.reading.check_lines.Given as goal

abbrev pub invariant-lines : goal.invariant-lines
invariant-lines l = record {
  left : lines_checked l.graph 0 (read_lines 1 (lines l.text)) ≡ lines_checked l.graph l.count (read_lines (l.before + 1) (lines l.rest));
  short : l.before + length l.rest ≤ most_source_bytes;
  few : l.count ≤ most_faults;
}

abbrev pub decreases-lines : goal.decreases-lines
decreases-lines l = length l.rest
