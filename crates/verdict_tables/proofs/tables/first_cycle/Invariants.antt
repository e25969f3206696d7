use Rattle.std.proofs.Common.{◌≡◌, drop}
use Rattle.verdict_tables.specs.Tables.{first_cycle, first_before}
use Rattle.verdict_tables.proofs.tables.first_cycle.Given as goal

abbrev pub invariant-faults : goal.invariant-faults
invariant-faults l = first_cycle l.group ≡ first_before l.first (drop l.i l.group)
