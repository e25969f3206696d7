use Rattle.fault_cover.proofs.Surveying.{OutsSoFar}
use Rattle.fault_cover.proofs.survey.are_outputs.Given as goal

abbrev pub invariant-outputs : goal.invariant-outputs
invariant-outputs l = OutsSoFar l.graph l.wanted.items l.i
