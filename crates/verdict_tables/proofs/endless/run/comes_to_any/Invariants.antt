use Rattle.std.proofs.Common.{◌≡◌, drop}
use Rattle.std.specs.List.{list_any}
use Rattle.verdict_tables.specs.Endings.{comes_to}
use Rattle.verdict_tables.proofs.endless.run.comes_to_any.Given as goal

abbrev pub invariant-faults : goal.invariant-faults
invariant-faults l = list_any (comes_to l.cycle l.answers) l.group ≡ list_any (comes_to l.cycle l.answers) (drop l.i l.group)
