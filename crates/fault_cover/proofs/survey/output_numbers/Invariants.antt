use Rattle.fault_cover.proofs.Surveying.{NumbersSoFar}
use Rattle.fault_cover.proofs.survey.output_numbers.Given as goal

abbrev pub invariant-outputs : goal.invariant-outputs
invariant-outputs l = NumbersSoFar l.graph l.numbers.items l.i
