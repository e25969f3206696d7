use Rattle.fault_cover.proofs.inverse.+divided.Given as goal

abbrev pub decreases-divided : goal.decreases-divided
decreases-divided l = l.second.divisor
