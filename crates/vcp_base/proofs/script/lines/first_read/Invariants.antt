use Rattle.std.proofs.Common.{◌≡◌, ◌≤◌, ◌+◌, length}
use Rattle.std.specs.Str.Lines.{lines}
use Rattle.vcp_base.specs.Lines.{read_lines}
use Rattle.vcp_base.proofs.script.lines.first_read.Given as goal

abbrev pub invariant-lines : goal.invariant-lines
invariant-lines l = record {
  read : read_lines (l.before + 1) (lines l.text) ≡ read_lines (l.number + 1) (lines l.rest);
  number : l.number + length l.rest ≤ l.before + length l.text;
  shorter : length l.rest ≤ length l.text;
}

abbrev pub decreases-lines : goal.decreases-lines
decreases-lines l = length l.rest
