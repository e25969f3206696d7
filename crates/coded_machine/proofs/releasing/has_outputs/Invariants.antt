use Rattle.coded_machine.proofs.releasing.has_outputs.Given as goal

abbrev pub invariant-outputs : goal.invariant-outputs
invariant-outputs l = Unit {0}
