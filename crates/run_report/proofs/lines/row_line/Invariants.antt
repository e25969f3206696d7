use Rattle.std.proofs.Common.{◌≡◌, take, flat_map, ◌++◌, decimal}
use Rattle.vcp_outside.specs.Gathering.{IsGathered}
use Rattle.run_report.specs.Lines.{value_cell}
use Rattle.run_report.proofs.lines.row_line.Given as goal

abbrev pub invariant-cells : goal.invariant-cells
invariant-cells g l = record {
  told : l.told ≡ l.i;
  gathered : IsGathered (g.O.Sink.seen l.fn.out).written (g.O.Sink.seen l.out).written (g.O.Sink.seen l.fn.out).faults (g.O.Sink.seen l.out).faults
      (decimal l.fn.cycle ++ flat_map value_cell (take l.i l.row)) l.line;
}
