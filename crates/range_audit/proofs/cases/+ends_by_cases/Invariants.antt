use Rattle.range_audit.proofs.cases.+ends_by_cases.Given as goal

abbrev pub decreases-ends_by_cases : goal.decreases-ends_by_cases
decreases-ends_by_cases l = l.depth
