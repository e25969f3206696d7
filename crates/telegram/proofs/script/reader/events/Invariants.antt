use Rattle.std.proofs.Common.{◌≡◌, ◌≤◌, ◌<◌, ◌+◌, ◌*◌, length}
use Rattle.std.specs.Str.Lines.{lines}
use Rattle.vcp_base.specs.Limits.{most_source_bytes}
use Rattle.vcp_base.specs.Lines.{read_lines}
use Rattle.telegram.specs.Reads.{behind}
use Rattle.telegram.specs.ScriptOf.{events_of}
use Rattle.telegram.proofs.Reading.{AreRead}
use Rattle.telegram.proofs.script.reader.events.Given as goal

abbrev pub invariant-lines : goal.invariant-lines
invariant-lines l = record {
  left : events_of l.wire 0 (read_lines (l.before + 1) (lines l.bytes))
      ≡ behind l.events (events_of l.wire l.begun (read_lines (l.number + 1) (lines l.rest)));
  read : AreRead l.wire l.events l.begun;
  short : l.number + length l.rest ≤ most_source_bytes;
  few : 2 * l.begun ≤ length l.bytes + 1;
  room : 0 < length l.rest → 2 * l.begun + length l.rest ≤ length l.bytes;
}

abbrev pub decreases-lines : goal.decreases-lines
decreases-lines l = length l.rest
