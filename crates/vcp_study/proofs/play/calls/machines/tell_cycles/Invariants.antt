use Rattle.std.proofs.Common.{◌≡◌, ◌≤◌, false, length}
use Rattle.coded_machine.specs.State.{State}
use Rattle.vcp_study.proofs.play.calls.machines.tell_cycles.Given as goal

abbrev pub invariant-cycles : goal.invariant-cycles
invariant-cycles l =
    let m : State = l.machine in
    record {
      cycles : m.cycles ≤ l.i;
      between : m.under_way ≡ false;
      outputs : length m.graph.outputs ≡ 1;
      out : length l.out ≡ 1;
    }
