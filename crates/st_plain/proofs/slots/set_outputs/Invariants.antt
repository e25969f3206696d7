use Rattle.std.proofs.Common.{◌≡◌, ◌+◌, ◌≤◌, ◌++◌, take, drop, length}
use Rattle.vcp_typed.specs.Fitting.{output_types}
use Rattle.vcp_typed.specs.SourceRun.{outputs}
use Rattle.st_plain.proofs.slots.set_outputs.Given as goal

abbrev pub invariant-each : goal.invariant-each
invariant-each l = record {
  same : take l.next l.out ++ outputs (drop l.i l.slots) (drop l.i l.values) ≡ outputs l.slots l.values;
  cells : l.next + length (output_types (drop l.i l.slots)) ≡ length l.out;
  few : l.next ≤ l.i;
  long : length l.out ≡ length l.fn.out;
}
