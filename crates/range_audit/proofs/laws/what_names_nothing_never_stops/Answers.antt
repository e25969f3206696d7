use Rattle.range_audit.proofs.NoneNamed.{never}
use Rattle.range_audit.proofs.laws.what_names_nothing_never_stops.Goals as goal

pub returns : goal.returns
returns c = never
