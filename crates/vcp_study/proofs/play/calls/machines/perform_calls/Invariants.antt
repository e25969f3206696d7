use Rattle.std.proofs.Common.{◌≡◌, ◌-◌, length}
use Rattle.coded_machine.specs.State.{State, given}
use Rattle.vcp_study.proofs.play.calls.machines.perform_calls.Given as goal

abbrev pub invariant-calls : goal.invariant-calls
invariant-calls l =
    let m : State = l.machine in
    let first : State = l.fn.machine in
    record {
      graph : m.graph ≡ first.graph;
      cycles : m.cycles ≡ first.cycles;
    }

abbrev pub decreases-calls : goal.decreases-calls
decreases-calls l = let m : State = l.machine in length m.graph.operations - length (given m)
