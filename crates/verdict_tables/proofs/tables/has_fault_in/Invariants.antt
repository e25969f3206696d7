use Rattle.std.proofs.Common.{◌≡◌, drop}
use Rattle.std.specs.List.{list_any}
use Rattle.verdict_tables.specs.Tables.{is_fault_in}
use Rattle.verdict_tables.proofs.tables.has_fault_in.Given as goal

abbrev pub invariant-faults : goal.invariant-faults
invariant-faults l = list_any (is_fault_in l.table l.n) l.group ≡ list_any (is_fault_in l.table l.n) (drop l.i l.group)
