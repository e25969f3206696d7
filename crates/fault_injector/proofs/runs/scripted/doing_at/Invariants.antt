use Rattle.std.proofs.Common.{drop}
use Rattle.fault_injector.proofs.Carrying.{DoneFrom}
use Rattle.fault_injector.proofs.runs.scripted.doing_at.Given as goal

abbrev pub invariant-sites : goal.invariant-sites
invariant-sites l = DoneFrom l.carried (drop l.i l.carried) l.call
