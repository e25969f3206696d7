use Rattle.range_walk.proofs.choices.+case_within.Given as goal

abbrev pub decreases-case_within : goal.decreases-case_within
decreases-case_within l = l.depth
