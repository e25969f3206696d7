use Rattle.std.proofs.Common.{◌+◌, ◌≤◌, length}
use Rattle.std.specs.Str.Lines.{lines}
use Rattle.vcp_base.specs.Limits.{most_source_bytes}
use Rattle.vcp_base.specs.Lines.{read_lines}
use Rattle.fault_sites.specs.NamedScript.{entries}
use Rattle.fault_sites.proofs.NamedGoing.{Part}
use Rattle.fault_sites.proofs.named.writing.then_lines.Given as goal

abbrev pub invariant-lines : goal.invariant-lines
invariant-lines g l = record {
  told : Part (g.P.Pen.seen l.fn.pen) (g.P.Pen.seen l.pen) (entries l.graph (read_lines 1 (lines l.text)))
      (entries l.graph (read_lines (l.before + 1) (lines l.rest)));
  few : l.before + length l.rest ≤ most_source_bytes;
}

abbrev pub decreases-lines : goal.decreases-lines
decreases-lines g l = length l.rest
