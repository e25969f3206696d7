use Rattle.range_audit.proofs.asking.+stops_by_cases.Given as goal

abbrev pub decreases-stops_by_cases : goal.decreases-stops_by_cases
decreases-stops_by_cases l = l.depth
