use Rattle.std.proofs.Common.{◌≡◌, drop}
use Rattle.coded_machine.specs.CycleEnds.{first_stop}
use Rattle.coded_machine.proofs.cycle_end.first_stop.Given as goal

abbrev pub invariant-answers : goal.invariant-answers
invariant-answers l = first_stop 0 l.answers ≡ first_stop l.k (drop l.k l.answers)
