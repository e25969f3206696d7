use Rattle.std.proofs.Common.{◌≡◌, ◌-◌, true, length}
use Rattle.coded_machine.specs.Calls.{CallsOf, Carried}
use Rattle.coded_machine.specs.State.{State, given, setting}
use Rattle.coded_machine.proofs.machine.Machine.carry.Given as goal

-- the calls so far are carried, and nothing of the machine has changed but its answers
abbrev pub invariant-calls : goal.invariant-calls
invariant-calls g l =
    let unit = g.U.Unit in
    let m : State = l.self in
    let first : State = l.fn.self in
    record {
      same : m ≡ record first { answers = m.answers; under_way = m.under_way };
      way : m.under_way ≡ true;
      carried : Carried (CallsOf (setting first l.row) (given m)) (unit.seen l.fn.unit).log (unit.seen l.unit).log (unit.seen l.fn.unit).wrong (unit.seen l.unit).wrong;
    }

abbrev pub decreases-calls : goal.decreases-calls
decreases-calls g l = let m : State = l.self in length m.graph.operations - length (given m)
