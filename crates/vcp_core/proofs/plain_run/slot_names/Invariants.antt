use Rattle.std.proofs.Common.{◌≡◌, ◌++◌, drop}
use Rattle.flat_expr.specs.Told.{names_of}
use Rattle.vcp_core.proofs.plain_run.slot_names.Given as goal

abbrev pub invariant-each : goal.invariant-each
invariant-each l = l.names ++ names_of (drop l.slot-index l.slots) ≡ names_of l.slots
