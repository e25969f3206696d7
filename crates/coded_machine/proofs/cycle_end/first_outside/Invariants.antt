use Rattle.std.proofs.Common.{◌≡◌, drop}
use Rattle.coded_machine.specs.CycleEnds.{first_outside}
use Rattle.coded_machine.proofs.cycle_end.first_outside.Given as goal

abbrev pub invariant-outputs : goal.invariant-outputs
invariant-outputs l = first_outside l.graph.profile l.answers l.graph.outputs ≡ first_outside l.graph.profile l.answers (drop l.i l.graph.outputs)
