use Rattle.range_audit.proofs.cases.+range_by_cases.Given as goal

abbrev pub decreases-range_by_cases : goal.decreases-range_by_cases
decreases-range_by_cases l = l.depth
