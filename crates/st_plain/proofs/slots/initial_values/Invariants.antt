use Rattle.std.proofs.Common.{◌≡◌, ◌++◌, drop}
use Rattle.vcp_typed.specs.SourceRun.{initial}
use Rattle.st_plain.proofs.slots.initial_values.Given as goal

abbrev pub invariant-each : goal.invariant-each
invariant-each l = l.values ++ initial (drop l.slot-index l.slots) ≡ initial l.slots
