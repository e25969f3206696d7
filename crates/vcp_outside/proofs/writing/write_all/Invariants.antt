use Rattle.std.proofs.Common.{◌≡◌, length, take, ◌-◌, ◌≤◌}
use Rattle.std.specs.Io.KnownBytes.{Appends}
use Rattle.vcp_outside.proofs.writing.write_all.Given as goal

abbrev pub invariant-writing : goal.invariant-writing
invariant-writing g l = record {
  in_range : l.at ≤ length l.piece;
  bytes : Appends (g.O.Sink.seen l.fn.sink).written (g.O.Sink.seen l.sink).written (take l.at l.piece);
  stayed : (g.O.Sink.seen l.sink).faults ≡ (g.O.Sink.seen l.fn.sink).faults;
}

abbrev pub decreases-writing : goal.decreases-writing
decreases-writing g l = length l.piece - l.at
