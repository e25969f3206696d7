use Rattle.range_audit.specs.Searching.{IsSound}
use Rattle.range_audit.proofs.families.closer.Given as goal

abbrev pub invariant-tries : goal.invariant-tries
invariant-tries l = IsSound l.graph l.inputs l.told
