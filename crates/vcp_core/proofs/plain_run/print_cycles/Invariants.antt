use Rattle.std.proofs.Common.{◌≡◌, ◌≤◌, None, length}
use Rattle.std.specs.Prelude.{All}
use Rattle.vcp_base.specs.Types.{AreIn}
use Rattle.vcp_typed.specs.Fitting.{AreFit, input_types, output_types}
use Rattle.vcp_core.proofs.PlainTurns.{Going}
use Rattle.vcp_core.proofs.plain_run.print_cycles.Given as goal

abbrev pub invariant-cycles : goal.invariant-cycles
invariant-cycles g l = record {
  program : l.plain.program ≡ l.fn.plain.program;
  stop : l.plain.stop ≡ None;
  fit : AreFit l.fn.plain.program.slots l.plain.values;
  types : l.rows.types ≡ input_types l.fn.plain.program.slots;
  typed : All (AreIn (input_types l.fn.plain.program.slots)) l.rows.rows;
  inputs : length l.inputs ≡ length (input_types l.fn.plain.program.slots);
  outputs : length l.outputs ≡ length (output_types l.fn.plain.program.slots);
  later : (g.O.Sink.seen l.fn.out).faults ≤ (g.O.Sink.seen l.out).faults;
  stayed : (g.O.Sink.seen l.out).faults ≡ (g.O.Sink.seen l.fn.out).faults;
  going : Going l.fn.plain.program l.fn.plain.values l.fn.rows (g.O.Sink.seen l.fn.out).written (g.O.Sink.seen l.out).written l.count l.plain.values l.rows;
}

abbrev pub decreases-cycles : goal.decreases-cycles
decreases-cycles g l = length l.rows.rows
