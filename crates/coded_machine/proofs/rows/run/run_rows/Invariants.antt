use Rattle.std.proofs.Common.{◌≡◌, length}
use Rattle.coded_machine.specs.State.{State}
use Rattle.coded_machine.specs.Moments.{moment}
use Rattle.coded_machine.proofs.Overall.{Fair}
use Rattle.coded_machine.proofs.UpTo.{UpTo}
use Rattle.coded_machine.specs.Laws.{RunLaws, HonestLaws}
use Rattle.coded_machine.proofs.rows.run.run_rows.Given as goal

abbrev pub invariant-cycles : goal.invariant-cycles
invariant-cycles g l =
    let first : State = l.fn.machine in
    let unit = g.U.Unit in
    let sink = g.O.Sink in
    let released = g.R.ReleasedRows in
    let left = g.S.RowReader.left in
    record {
      runs : RunLaws;
      honest : HonestLaws;
      fair : Fair first.graph first.table (left l.fn.rows).rows;
      inputs : length l.inputs ≡ length (left l.rows).types;
      outputs : length l.outputs ≡ length first.graph.outputs;
      so_far :
          UpTo first.graph first.table (left l.fn.rows) (left l.rows) released.text
          (moment (unit.seen l.fn.unit) (sink.seen l.fn.out))
          (moment (unit.seen l.unit) (sink.seen l.out)) (released.Keeps l.fn.released)
          (released.Keeps l.released) l.machine;
    }

abbrev pub decreases-cycles : goal.decreases-cycles
decreases-cycles g l = length (g.S.RowReader.left l.rows).rows
