use Rattle.std.proofs.Common.{◌≡◌, ◌≤◌, ◌+◌, length, drop}
use Rattle.telegram.specs.WireRun.{sent_in}
use Rattle.telegram.proofs.runs.run.cycles_of.Given as goal

abbrev pub invariant-events : goal.invariant-events
invariant-events l = record {
  all : l.cycles + length (sent_in (drop l.i l.events)) ≡ length (sent_in l.events);
  few : l.cycles ≤ l.i;
}
