use Rattle.std.proofs.Common.{◌≡◌, drop}
use Rattle.coded_machine.specs.CycleEnds.{first_refused}
use Rattle.coded_machine.proofs.cycle_end.first_refused.Given as goal

abbrev pub invariant-outputs : goal.invariant-outputs
invariant-outputs l =
    first_refused l.graph.profile l.table l.cycle l.answers 0 l.graph.outputs ≡ first_refused l.graph.profile l.table l.cycle l.answers l.i
    (drop l.i l.graph.outputs)
