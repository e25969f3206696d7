use Rattle.std.proofs.Common.{◌≡◌, ◌≤◌, ◌+◌, length}
use Rattle.std.specs.List.{list_any}
use Rattle.std.specs.Str.Lines.{lines}
use Rattle.vcp_base.specs.Limits.{most_source_bytes}
use Rattle.vcp_base.specs.Lines.{read_lines}
use Rattle.telegram.specs.ScriptOf.{is_head}
use Rattle.telegram.proofs.script.reader.has_head.Given as goal

abbrev pub invariant-lines : goal.invariant-lines
invariant-lines l = record {
  read : list_any is_head (read_lines 1 (lines l.bytes)) ≡ list_any is_head (read_lines (l.number + 1) (lines l.rest));
  short : l.number + length l.rest ≤ most_source_bytes;
}

abbrev pub decreases-lines : goal.decreases-lines
decreases-lines l = length l.rest
