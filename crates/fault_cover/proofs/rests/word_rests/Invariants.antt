use Rattle.fault_cover.proofs.Resting.{WordsSoFar}
use Rattle.fault_cover.proofs.rests.word_rests.Given as goal

abbrev pub invariant-words : goal.invariant-words
invariant-words l = WordsSoFar l.graph l.survey l.all.items l.k
