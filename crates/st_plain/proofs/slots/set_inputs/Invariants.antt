use Rattle.std.proofs.Common.{◌≡◌, ◌++◌, ◌≤◌, take, drop, length}
use Rattle.vcp_base.specs.Types.{AreIn}
use Rattle.vcp_typed.specs.Fitting.{input_types}
use Rattle.vcp_typed.specs.SourceRun.{with_inputs}
use Rattle.st_plain.proofs.slots.set_inputs.Given as goal

abbrev pub invariant-each : goal.invariant-each
invariant-each l = record {
  same : take l.i l.values ++ with_inputs (drop l.i l.slots) (drop l.next l.row) (drop l.i l.before) ≡ with_inputs l.slots l.row l.before;
  inputs : AreIn (input_types (drop l.i l.slots)) (drop l.next l.row);
  places : length l.values ≡ length l.slots;
  few : l.next ≤ l.i;
}
