use Rattle.std.proofs.Common.{◌≡◌, ◌≤◌, ◌*◌, false, None, take, length, vec_capacity}
use Rattle.coded_machine.specs.Runs.{RunSoFar}
use Rattle.coded_machine.specs.State.{State}
use Rattle.fault_injector.specs.References.{kept_cycles}
use Rattle.fault_injector.proofs.campaign.reruns.kept.keep_run.Given as goal

abbrev pub invariant-cycles : goal.invariant-cycles
invariant-cycles g l =
    let unit = g.U.Unit in
    let m : State = l.machine in
    let f : State = l.fn.machine in
    record {
      run : RunSoFar f.graph f.table (take l.i l.rows) (kept_cycles (length f.graph.operations) l.i l.words.items None) m
          (unit.seen l.fn.unit).log (unit.seen l.unit).log (unit.seen l.fn.unit).wrong (unit.seen l.unit).wrong;
      between : m.under_way ≡ false;
      flat : length l.words.items ≡ l.i * length f.graph.operations;
      room : length l.rows * length f.graph.operations ≤ vec_capacity l.words;
      inputs : length l.inputs ≡ length f.graph.inputs;
      outputs : length l.outputs ≡ length f.graph.outputs;
      count : l.count ≡ length l.rows;
    }
