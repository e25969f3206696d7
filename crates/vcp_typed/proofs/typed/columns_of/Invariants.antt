use Rattle.std.proofs.Common.{◌≡◌, ◌++◌, drop}
use Rattle.vcp_typed.specs.Fitting.{columns_in}
use Rattle.vcp_typed.proofs.typed.columns_of.Given as goal

abbrev pub invariant-each : goal.invariant-each
invariant-each l = l.columns ++ columns_in l.wanted (drop l.slot-index l.slots) ≡ columns_in l.wanted l.slots
