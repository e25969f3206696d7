use Rattle.range_audit.proofs.NoneNamed.{never_within}
use Rattle.range_audit.proofs.laws.what_names_nothing_never_stops_within.Goals as goal

pub returns : goal.returns
returns c = never_within
